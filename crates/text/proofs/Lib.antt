pub mod Decimals
pub mod Texts
pub mod Lines
pub mod DigitLaws
pub mod ReadBack
pub mod Marks

pub mod Text
pub mod Digits
pub mod Marks
pub mod Shown

pub mod Texts
pub mod Copies
pub mod Rows
pub mod Lines

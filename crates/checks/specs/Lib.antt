pub mod Checks
pub mod Shown

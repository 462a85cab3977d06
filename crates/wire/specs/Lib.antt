pub mod Table
pub mod Refusals
pub mod Le
pub mod Rows
pub mod Counts
pub mod Words
pub mod Shown

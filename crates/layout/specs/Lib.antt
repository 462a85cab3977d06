pub mod Facts
pub mod Given
pub mod Scan
pub mod Steps
pub mod Index
pub mod Shown
pub mod Accepted

pub mod Node
pub mod Entry
pub mod Shown

pub mod Parts
pub mod Writer
pub mod Shown
pub mod Inner

pub mod Walk
pub mod Lookup
pub mod Table
pub mod Shown
pub mod Inner

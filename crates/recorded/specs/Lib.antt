pub mod Text
pub mod Calls
pub mod Agreed
pub mod Inner

pub mod CheckLaws
pub mod Ordered
pub mod BothWays

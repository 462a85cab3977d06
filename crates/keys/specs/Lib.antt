pub mod Sorted
pub mod Keys
pub mod Sort
pub mod Claim

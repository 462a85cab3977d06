pub mod Sorted
pub mod Keys
pub mod Duplicates
pub mod Lent
pub mod Pigeonhole
pub mod Claims

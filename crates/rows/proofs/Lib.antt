pub mod RowLaws
pub mod Pass
pub mod Quick
pub mod Pairs

pub mod Told
pub mod EntryLaws
pub mod Values

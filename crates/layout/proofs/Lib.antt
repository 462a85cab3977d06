pub mod Tests
pub mod Entries
pub mod IndexLaws
pub mod Split
pub mod Answers
pub mod Accepted

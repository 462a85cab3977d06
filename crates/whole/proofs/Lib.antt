pub mod WholeLaws
pub mod Accepted
pub mod Numbered
pub mod Answers

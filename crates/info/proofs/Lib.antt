pub mod Cases
pub mod NodeLaws
pub mod Laws
pub mod Answers

pub mod Pages
pub mod AnswerLaws
pub mod ProgramLaws

pub mod Page
pub mod Words
pub mod Answer
pub mod Program

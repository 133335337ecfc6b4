pub mod Missed
pub mod Answers

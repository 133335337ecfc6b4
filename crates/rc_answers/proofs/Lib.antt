pub mod EmptyLines
pub mod ToldLaws
pub mod Written

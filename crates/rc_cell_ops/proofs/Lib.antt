pub mod Deleting
pub mod Choices
pub mod Reached

pub mod Words
pub mod Begins

pub mod Searching
pub mod Rows

pub mod Enclosing
pub mod Here

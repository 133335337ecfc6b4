pub mod Building
pub mod Contexts
pub mod Fields
pub mod Firsts
pub mod Groups
pub mod Sizes

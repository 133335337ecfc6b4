pub mod Sides
pub mod Sizes

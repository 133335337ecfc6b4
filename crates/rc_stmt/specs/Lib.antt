pub mod Shapes
pub mod Along

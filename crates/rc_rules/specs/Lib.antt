pub mod Shapes
pub mod Parameters

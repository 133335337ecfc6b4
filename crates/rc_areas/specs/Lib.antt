pub mod Areas
pub mod Shapes
pub mod Naming

pub mod Shapes
pub mod Counted

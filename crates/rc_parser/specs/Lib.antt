pub mod Shapes
pub mod Items

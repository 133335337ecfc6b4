pub mod Suits
pub mod Frames
pub mod Kinds
pub mod Parts
pub mod Demands
pub mod Copies

pub mod Shapes
pub mod Pieces
pub mod Lexes

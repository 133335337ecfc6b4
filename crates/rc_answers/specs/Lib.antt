pub mod Answers
pub mod LineBytes
pub mod Lines
pub mod Pieces
pub mod Status
pub mod Telling

pub mod Rows
pub mod Kinding
pub mod OneKind
pub mod Marks

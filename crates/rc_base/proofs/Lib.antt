pub mod ActLaws
pub mod Held
pub mod Marks

pub mod Changes
pub mod Cells
pub mod Together

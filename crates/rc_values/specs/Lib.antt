pub mod Values
pub mod Outcomes
pub mod Cells
pub mod Objects

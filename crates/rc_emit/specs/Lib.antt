pub mod Compiled
pub mod Cells

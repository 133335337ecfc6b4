pub mod Cells
pub mod Memory

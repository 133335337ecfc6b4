mod Cells
pub mod One
mod Inspecting

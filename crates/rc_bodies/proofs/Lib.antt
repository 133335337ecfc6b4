pub mod Walks
pub mod Kept
pub mod Blocks
pub mod Cells
pub mod Declared
pub mod Assigned
pub mod Alones

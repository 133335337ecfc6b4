pub mod Reaching
pub mod Deleting
pub mod Writing

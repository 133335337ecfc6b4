pub mod Arms
pub mod Reached

pub mod Counting
pub mod Targets
pub mod Shaping

pub mod Translation
pub mod Means
pub mod RegionExamples
pub mod Keeps

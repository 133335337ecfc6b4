pub mod Stepping
pub mod Coming
pub mod Runs
pub mod Image
pub mod Fronts

pub mod Stepping
pub mod Controls
pub mod Coming

pub mod Standing
pub mod Clashing
pub mod Kept

pub mod Each
pub mod Filling
pub mod Unused
pub mod Keeping

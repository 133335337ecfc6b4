pub mod Along
pub mod Changed
pub mod Keeping
pub mod Pinned

pub mod Fresh
pub mod Pinned

pub mod Copied
pub mod Unmoved

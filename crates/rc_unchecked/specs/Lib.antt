pub mod Regions
pub mod Unchecked
pub mod Right
pub mod Compiled
pub mod Images

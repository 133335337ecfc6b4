pub mod Walks
pub mod Masks
pub mod Numbered

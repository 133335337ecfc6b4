pub mod Kept
pub mod KeptWorld
pub mod Leaving
pub mod Change

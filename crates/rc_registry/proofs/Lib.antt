pub mod Members
pub mod Placed
pub mod Added
pub mod Sounds
pub mod Marked
pub mod Thinned

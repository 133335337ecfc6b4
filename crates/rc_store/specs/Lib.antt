pub mod Values
pub mod Kept
pub mod Stores
pub mod Elements
pub mod Laws
pub mod Sets
pub mod Whole

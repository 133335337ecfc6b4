pub mod Regions
pub mod Wholes
pub mod Shown
pub mod Pointed
pub mod Grown
pub mod Sets

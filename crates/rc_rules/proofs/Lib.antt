pub mod Paths
pub mod Arguments

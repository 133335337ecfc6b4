pub mod Accepted
pub mod Longer

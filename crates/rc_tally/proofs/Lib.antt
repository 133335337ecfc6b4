pub mod Taken
pub mod Giving

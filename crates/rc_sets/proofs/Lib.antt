pub mod Lists
pub mod Keeping
pub mod Lines
pub mod Runs

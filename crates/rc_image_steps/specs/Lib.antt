pub mod Sites
pub mod Ways
pub mod Listing

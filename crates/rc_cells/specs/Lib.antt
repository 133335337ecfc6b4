pub mod Codes
pub mod Follow
pub mod Together

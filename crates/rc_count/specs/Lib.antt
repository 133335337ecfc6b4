pub mod Counted
pub mod Together

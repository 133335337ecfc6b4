pub mod Claiming
pub mod Marking
pub mod Finding

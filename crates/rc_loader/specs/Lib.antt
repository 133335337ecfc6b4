pub mod Violations
pub mod Unmarked
pub mod Codes
pub mod Decisions

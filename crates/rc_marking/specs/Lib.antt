pub mod Marking
pub mod Told

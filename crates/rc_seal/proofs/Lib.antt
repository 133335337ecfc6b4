pub mod Targets
pub mod Claiming
pub mod Marks
pub mod Found
pub mod Sealing

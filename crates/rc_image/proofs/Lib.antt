pub mod Runs
pub mod Operands
pub mod RunLaws
pub mod Wholes
pub mod Refusals
pub mod Prefixes

pub mod Stubbing
pub mod Cutting

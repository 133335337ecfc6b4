pub mod Trusted
pub mod Puts
pub mod Following
pub mod Right
pub mod Unchecked
pub mod Faithful
pub mod Compiled

pub mod Pinning
pub mod Setting
pub mod Calling
pub mod Found
pub mod Outside

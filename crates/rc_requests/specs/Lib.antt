pub mod Asking
pub mod Request

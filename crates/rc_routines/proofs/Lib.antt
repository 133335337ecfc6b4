pub mod Codes
pub mod SameBodies
pub mod Copies

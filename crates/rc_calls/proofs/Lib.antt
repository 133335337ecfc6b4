pub mod Pinned
pub mod Calling
pub mod Leading

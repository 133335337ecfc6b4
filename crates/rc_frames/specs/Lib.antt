pub mod LiveAt
pub mod LiveBehind
pub mod Frames
pub mod Codes
pub mod Waiting

pub mod Unused
pub mod Claimed
pub mod Wholes
pub mod Loops

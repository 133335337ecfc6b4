pub mod Counts
pub mod Bits
pub mod Claims

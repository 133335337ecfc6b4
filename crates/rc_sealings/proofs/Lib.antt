pub mod Bits
pub mod Faults
pub mod Frames
pub mod Marks
pub mod One

pub mod Bounds
pub mod Digits
pub mod Loop
pub mod Codecs
pub mod Fields
pub mod Wholes

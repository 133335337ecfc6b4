pub mod Order
pub mod Bytes
pub mod Framing
pub mod Numbering

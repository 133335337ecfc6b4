pub mod Standing
pub mod Framing

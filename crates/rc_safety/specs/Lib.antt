pub mod Soundness
pub mod Safety

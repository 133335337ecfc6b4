pub mod Registries
pub mod Sound
pub mod Groups

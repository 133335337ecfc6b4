pub mod Worlds
pub mod Typed
pub mod Facts
pub mod Meanings
pub mod Translated
pub mod States
pub mod SmallSteps
pub mod Examples

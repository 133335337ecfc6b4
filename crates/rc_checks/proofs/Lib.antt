mod Rights
mod Aims
mod Values
mod Typed
pub mod Whole

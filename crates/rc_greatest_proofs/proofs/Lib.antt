pub mod Views
pub mod Bare
pub mod Pins
pub mod Fits
pub mod Giving

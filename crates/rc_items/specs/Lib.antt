pub mod Outside
pub mod Parts

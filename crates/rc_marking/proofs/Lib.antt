mod Stepping
mod Fitting
pub mod Numbered
pub mod Told

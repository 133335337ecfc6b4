pub mod Images
pub mod Finishing

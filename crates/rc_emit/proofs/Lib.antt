mod Answered
pub mod Whole
pub mod Backs
mod Functions
mod Laid
mod ImagingWhole

pub mod Telling
pub mod Fitting
pub mod Listing
pub mod Counting
pub mod Giving
pub mod Heights
pub mod Judging

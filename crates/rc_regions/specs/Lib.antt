pub mod Above
pub mod Ascents
pub mod Columns
pub mod Lists
pub mod Slots
pub mod Sound
pub mod Ways

pub mod Listing
pub mod Numbering
pub mod Entered
pub mod Onward
pub mod Placed

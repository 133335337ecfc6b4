pub mod Entering
pub mod Going
pub mod Telling
pub mod Claiming

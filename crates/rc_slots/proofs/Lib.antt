pub mod Entered
pub mod Listed

pub mod Counted
pub mod Spelling
pub mod Reading
pub mod Carrying

pub mod Derivable
pub mod Facts
pub mod Flow
pub mod Inside
pub mod Null
pub mod Rows
pub mod Shut
pub mod Steps

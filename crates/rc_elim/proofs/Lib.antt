pub mod OneMask
pub mod Removing
pub mod Walks
pub mod Silent
pub mod NoneAsks
pub mod Unmarked
pub mod Checked

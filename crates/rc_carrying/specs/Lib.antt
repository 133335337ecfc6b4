pub mod Left
pub mod Closing
pub mod Asked
pub mod Passing

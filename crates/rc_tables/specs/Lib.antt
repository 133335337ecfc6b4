pub mod Keys
pub mod Kept
pub mod Numbers
pub mod Placed

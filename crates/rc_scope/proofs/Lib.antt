pub mod Numbers
pub mod Keys
pub mod Stacks
pub mod Finds

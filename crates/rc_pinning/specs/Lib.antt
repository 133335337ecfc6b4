pub mod Numbers
pub mod Stops
pub mod Operands
pub mod Unpinned
pub mod Tables

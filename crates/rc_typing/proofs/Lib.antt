pub mod Mains
pub mod Bounded
pub mod Programs

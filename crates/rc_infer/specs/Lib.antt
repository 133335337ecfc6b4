pub mod Covering
pub mod Steps
pub mod Walking
pub mod Starting

pub mod Walking
pub mod Routed

pub mod Stacks
pub mod Places
pub mod Walking
pub mod TwoWays
pub mod Copies
pub mod Gathers
pub mod KeptKeys

pub mod Firsts
pub mod Standing
pub mod Definitions
pub mod Naming

pub mod Firsts
pub mod Passes

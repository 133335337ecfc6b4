pub mod Behind
pub mod Walks
pub mod FromGlobals

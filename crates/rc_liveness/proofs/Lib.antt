pub mod Each
pub mod Behind
pub mod Agrees
pub mod Edges
pub mod Solved
pub mod Found
pub mod Told
pub mod Mapped

pub mod Sets
pub mod Spots
pub mod Passing
pub mod Visiting
pub mod Lowering
pub mod Family
pub mod Starting
pub mod TheGreatest

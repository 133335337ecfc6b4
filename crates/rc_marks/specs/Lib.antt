pub mod Stores
pub mod Marked
pub mod InOrder
pub mod Counted

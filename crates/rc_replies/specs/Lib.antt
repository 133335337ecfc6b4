pub mod Replies
pub mod Stores
pub mod Examples
pub mod Laws
pub mod Writing
pub mod Commands
pub mod Reading

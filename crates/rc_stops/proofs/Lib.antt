pub mod Looks
pub mod Linked
pub mod Queues

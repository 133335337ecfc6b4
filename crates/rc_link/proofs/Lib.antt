pub mod Called
pub mod Answering
pub mod Walking

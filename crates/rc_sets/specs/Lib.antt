pub mod Deletions
pub mod Records
pub mod Obeying
pub mod Scripts

pub mod Standing
pub mod Places
pub mod Deletions
pub mod Building

pub mod Beside
pub mod Above
pub mod Zero
pub mod Written
pub mod Keeping

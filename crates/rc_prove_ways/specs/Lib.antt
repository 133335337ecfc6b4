pub mod Ranks
pub mod Leading

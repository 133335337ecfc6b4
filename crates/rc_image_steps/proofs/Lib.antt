pub mod Places
pub mod Below
pub mod Facts
pub mod Leading
pub mod Asked
pub mod Stepping
pub mod Framed
pub mod Pairs

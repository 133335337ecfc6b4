pub mod Runs
pub mod Values
pub mod Escapes
pub mod Bodies
pub mod Places
pub mod Lexed

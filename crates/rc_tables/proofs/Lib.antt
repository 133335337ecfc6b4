pub mod Places
mod PathKeys
pub mod Taken
mod TypeKeys
pub mod Bared
pub mod Seen
mod Structs
mod Made
pub mod Placing

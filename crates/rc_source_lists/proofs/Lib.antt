pub mod Listed
pub mod Flowing
pub mod Items

pub mod PathTypes
pub mod Accesses

pub mod Ruled
pub mod Members
pub mod Params
pub mod Functions
pub mod Walked
pub mod Totals
pub mod Globals

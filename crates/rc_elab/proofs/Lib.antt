pub mod Totals
pub mod Greatest
pub mod Functions
pub mod Elaborated

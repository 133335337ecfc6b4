pub mod Bare
pub mod Keys
pub mod Over
pub mod Operands
pub mod Gathered
pub mod Keyed
pub mod ProgramCode

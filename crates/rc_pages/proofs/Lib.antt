pub mod BigLiteral
pub mod CellLaws
pub mod PageMemory
pub mod Walks
mod Begun
mod Clean

mod Paths
mod Points
pub mod Computed
pub mod ShapeRows
pub mod LayoutLaws
pub mod CellLoops
pub mod Unwrapping
mod Follows
mod Grows
mod SourceFollows
mod RunLaws
pub mod Entries
pub mod Laying

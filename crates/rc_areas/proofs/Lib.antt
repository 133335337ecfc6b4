pub mod Cells
pub mod Objects
pub mod Pushed
pub mod Same
pub mod Named

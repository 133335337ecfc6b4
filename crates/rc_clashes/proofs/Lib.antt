pub mod Same
pub mod Standing
pub mod Alike
pub mod Clashing
pub mod Keeping

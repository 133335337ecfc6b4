pub mod Annotations
pub mod Holding
pub mod Worlds
pub mod Effects
pub mod Variables
pub mod Heights
pub mod Laws

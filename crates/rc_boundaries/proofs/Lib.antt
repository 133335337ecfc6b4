pub mod Handing
pub mod Every
pub mod Lost

pub mod Common
pub mod Bodies
pub mod Items
pub mod Split
pub mod Three
pub mod Assembled
pub mod OwnTypes

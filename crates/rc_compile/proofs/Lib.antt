pub mod EveryText
pub mod Found
pub mod InPlace
pub mod Limits
pub mod OneAnswer
pub mod Words
pub mod Trees
pub mod Texts

pub mod OneText
pub mod Ranges
pub mod SeveralTexts

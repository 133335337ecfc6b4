pub mod TextFiles
pub mod RunTexts
pub mod SeveralTexts
pub mod ImageFiles

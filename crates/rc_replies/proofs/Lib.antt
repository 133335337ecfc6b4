pub mod Same
pub mod Written
pub mod Lines
pub mod Numbers

pub mod Numbers
pub mod Declared
pub mod Itemed
pub mod Texts

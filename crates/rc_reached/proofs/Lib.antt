pub mod Rules
pub mod Along
pub mod Rows
pub mod Alike
pub mod Numbers
pub mod Narrowing

pub mod Texts
pub mod Programs
pub mod Loading
pub mod Making

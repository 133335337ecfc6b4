pub mod Checked
pub mod Going

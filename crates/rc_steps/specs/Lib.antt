pub mod Places
pub mod Stands
pub mod Leads
pub mod Ready
pub mod ShortForms
pub mod Follows

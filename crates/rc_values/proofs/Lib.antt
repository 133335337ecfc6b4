pub mod Lists
pub mod Firsts

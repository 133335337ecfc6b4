pub mod Places
pub mod GraphLists
pub mod Lists
pub mod Covers
pub mod Walks
pub mod Starts
pub mod Ending

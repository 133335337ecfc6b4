pub mod Gathering
pub mod Ranking
pub mod Fitting
pub mod Routing

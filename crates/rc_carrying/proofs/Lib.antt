pub mod Crossed
pub mod Closed
pub mod Carried
pub mod Dropping
pub mod Ready
pub mod Asking
pub mod Visits
pub mod Idle

pub mod Masks
pub mod Asking
pub mod Walking
pub mod Marking

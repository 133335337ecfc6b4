pub mod Admitted
pub mod Sealed
pub mod Marks
pub mod Greater

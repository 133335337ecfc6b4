pub mod Closes
pub mod Sets
pub mod Absent
pub mod RowLoops
pub mod RowLaws
pub mod SetLaws
pub mod Shut
pub mod Fresh
pub mod Widened
pub mod Present
pub mod Table
pub mod Added
mod Assigning
mod NullAdded
pub mod RowSteps
pub mod Follow
pub mod Moved
pub mod Behind

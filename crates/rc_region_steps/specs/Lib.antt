pub mod Adding
pub mod Arguments

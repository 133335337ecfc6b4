pub mod Laws
pub mod ListRows

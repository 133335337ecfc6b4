pub mod Program
pub mod Template

pub mod Going
pub mod Tests
pub mod Inside
pub mod Values
pub mod Declarators
pub mod Stated

pub mod Sames
pub mod Coded
pub mod Operands
pub mod Firsts
pub mod Marks
pub mod Deciding
pub mod Meeting
pub mod Totals

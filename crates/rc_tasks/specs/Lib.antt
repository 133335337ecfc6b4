-- To be read in this order: `Tasks` says what a program of tasks means, `Examples` are small ones whose meaning was computed. `Appended` has
-- the items that run the same tasks in the language itself, and `Reach` says what code names.
pub mod Tasks
pub mod Examples
pub mod Reach
pub mod Appended

-- For the proofs alone: readers of one byte and of one word at a time, which words and the grammar are proved equal to. Which
-- texts have which words and which tree is said without them.
pub mod Look
pub mod Todo
pub mod Reading
pub mod Steps

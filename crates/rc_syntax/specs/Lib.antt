-- Words: how a text is cut into them.
pub mod Tokens
pub mod WordShapes
pub mod Spellings
pub mod Bytes
pub mod Numerals
pub mod Literals
pub mod Words
-- Trees: which tree words have, and where words that have none stop.
pub mod Tree
pub mod Shape
pub mod Grammar
pub mod Place
-- How words and trees are printed, for the laws of printing alone.
pub mod printing
-- Readers of one byte and of one word at a time, for proofs alone: what is claimed of a text is said without them.
pub mod reader

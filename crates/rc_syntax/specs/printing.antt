-- How words and trees are printed, which only the laws of printing speak of.
pub mod Printing
pub mod Unplaced
pub mod TreeWords

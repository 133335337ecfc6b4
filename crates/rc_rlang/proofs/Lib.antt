pub mod Searching
pub mod KindLaws
pub mod CodeRows
pub mod ShapeRows
pub mod Totals

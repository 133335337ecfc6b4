mod Headings
mod Numbering
mod Walking

mod Indices
mod Made

pub mod Nodes
pub mod Truths
pub mod Derivations
pub mod Effects
pub mod Variables
pub mod WorldFacts
pub mod Greatest
pub mod Unions

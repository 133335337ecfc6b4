pub mod Along
pub mod RunLaws
pub mod MarkedRuns
pub mod MarkedLaws
pub mod Comes
pub mod ComesLaws

pub mod SoundSteps
pub mod SoundOperations
pub mod SoundActs
pub mod SoundFunctions
pub mod PinRules
pub mod Loading
pub mod NamedLocals
pub mod KeptRlang

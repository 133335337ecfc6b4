pub mod LiveParts
pub mod LiveFrames
pub mod Lives

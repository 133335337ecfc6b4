pub mod JoinedLaws
pub mod StackLaws
pub mod WordLaws

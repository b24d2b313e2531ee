pub mod EndedHolders
pub mod EnteredHolders
pub mod JoinedHolders
pub mod LeftStates

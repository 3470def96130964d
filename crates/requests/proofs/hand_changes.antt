mod PathChanges
pub mod OneChange
pub mod EventLemmas
pub mod Sessions
pub mod Exactness
mod LostChanges

pub mod WordLemmas
pub mod BranchLemmas
pub mod SwitchLemmas
pub mod TurnLemmas
pub mod FirstLemmas

pub mod ModulePathLemmas
pub mod WordLemmas
pub mod ReadAgain

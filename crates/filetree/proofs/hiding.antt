pub mod HidingLemmas
pub mod FailingLemmas

pub mod PartLemmas
pub mod ListLemmas
pub mod FaultLemmas
pub mod HiddenLemmas
pub mod ChosenLemmas
pub mod AlongLemmas
pub mod HintLemmas

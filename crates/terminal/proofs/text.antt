pub mod ShownLemmas
pub mod TableLemmas

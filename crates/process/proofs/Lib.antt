pub mod InputLemmas
pub mod PathLemmas
pub mod NameLemmas

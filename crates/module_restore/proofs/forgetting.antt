pub mod ListLemmas
pub mod PrefixLemmas
pub mod StackNames
pub mod PopLemmas
pub mod LawLemmas
pub mod ForgetLemmas
pub mod GoneLemmas
pub mod WayOutLemmas

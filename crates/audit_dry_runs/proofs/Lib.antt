mod ListLemmas
pub mod LoadLemmas
pub mod DryRunLemmas
mod UnloadLemmas
mod OrderLemmas
mod SomeDifference
mod LawLemmas
mod SomeDryRun

mod Seen
mod UseLemmas
pub mod UsedLemmas
mod RecordLemmas
pub mod AsCertified
pub mod OneUse
pub mod Exact
pub mod Staying
pub mod CertifiedOnes
pub mod MovedVariables
pub mod Moments
mod Runs
mod Agreements
mod Lost
mod OneModule
mod Recorded
mod LoadedOwners
mod Reported
pub mod Members
mod ClashLemmas
mod ConflictLemmas
mod TableLemmas
mod AnswerLemmas
pub mod OnceLemmas
mod Taken
mod TallyLemmas
mod TakenUsers
pub mod Answered

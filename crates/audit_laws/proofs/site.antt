mod Parts
pub mod Evaluations
pub mod Admissions
pub mod Chosen
pub mod Covered
pub mod DeterministicRecords
mod Standing
mod OneStanding
mod Forbidden
mod Unloaded
pub mod FreeReads
pub mod LiveReads
mod Returned
mod Editable
mod ChangesAgree
mod ChangesLeaveReads
mod Walked
mod Extended
mod DeterministicOnes
pub mod DirectorySetLemmas

-- Why a request was refused, and what to do.
pub mod Replacements
pub mod Alike
pub mod Paths
pub mod Advised
pub mod Commands
pub mod Locations
pub mod Explained
pub mod FailedPaths
-- what is said of it
pub mod FileLines
pub mod AdviceLines
-- for this crate's own contracts alone
pub mod Views

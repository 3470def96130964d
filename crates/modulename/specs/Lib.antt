pub mod ModuleName
pub mod Versions
-- for this crate's own contracts alone
pub mod DigitRuns
pub mod Spelled

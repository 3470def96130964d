-- The definitions of dry runs (own), and their laws.
pub mod DryRuns
pub mod Views
pub mod Laws
-- for this crate's own contracts alone
pub mod Parts

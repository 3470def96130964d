-- The definitions of the check of lines and of rehearsals (own), and of their laws.
pub mod Lines
pub mod Sessions
pub mod Judgments
pub mod Checks
pub mod Reports
pub mod Laws
pub mod Rehearsals
pub mod RehearsalLaws
-- for this crate's own contracts alone
pub mod Parts
pub mod RehearsalParts

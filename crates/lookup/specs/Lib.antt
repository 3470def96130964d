pub mod DefaultFileResults
pub mod OneResult
-- for this crate's own contracts alone
pub mod CommandAnswers
-- Modules that were found, and listed, as callers of the search see them.
pub mod Located
pub mod Lines
pub mod LocatedViews
pub mod LineViews

pub mod variables
pub mod substitution
-- The definitions that the contracts of this crate are written in: how the program's forms and arguments stand for
-- those of the rules.
pub mod Views
pub mod Branches
pub mod ArgumentViews
pub mod Lists
pub mod Loops
pub mod Firsts

-- What each subcommand of the function `module` does, and what it says.
pub mod Programs
pub mod Sites
pub mod Limits
pub mod Writings
pub mod Replies
pub mod Refusals
pub mod Afters
pub mod Changes
pub mod Automated
pub mod Moves
pub mod Exchanges
pub mod Edits
pub mod Reports
pub mod Listings
pub mod Descriptions
pub mod Collections
pub mod Completions
-- for this crate's own contracts alone
pub mod CompletionViews

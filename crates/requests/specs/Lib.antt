pub mod hand_changes
-- The definitions of requests, sessions and verdicts (module(1), modulefile(5)), and of their laws.
pub mod Requests
pub mod RequestViews
pub mod Reasons
pub mod Refusals
pub mod Conditions
pub mod Reports
pub mod Steps
pub mod Looked
pub mod Sessions
pub mod Verdicts
pub mod Returning
pub mod PlainRuns
pub mod JudgedRuns
pub mod Laws
pub mod Rows

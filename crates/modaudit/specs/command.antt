-- The definitions of a whole audit (own): the words of its command line, what it writes, and why there is none.
pub mod Arguments
pub mod ArgumentViews
pub mod Faults
pub mod Audits
pub mod Looked
pub mod NotUtf8
pub mod Tried
pub mod Steps
pub mod SiteCommands
pub mod WayBack
pub mod Moments
pub mod Reported
pub mod Ends

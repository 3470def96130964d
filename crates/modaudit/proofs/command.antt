pub mod DirectoryLemmas
mod PartedLemmas
mod TryingLemmas
pub mod AuditLemmas
mod FewerLemmas
mod PathLemmas
mod ReadableLemmas
pub mod SiteCommandLemmas
mod WayBackLemmas
mod MomentLemmas
mod ReportedLemmas
mod EndLemmas

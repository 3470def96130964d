pub mod SiteLemmas
pub mod ChangeLemmas
pub mod NarrowLemmas
pub mod RequestLemmas
pub mod AutomatedLemmas
pub mod ExchangeLemmas
pub mod ReportLemmas
pub mod PlaceLemmas

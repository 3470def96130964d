pub mod FillLemmas
pub mod KeptLemmas
pub mod LineLemmas
pub mod ShortLemmas
pub mod Utf8
pub mod WidthLemmas

pub mod RestoreLemmas
pub mod KeepLemmas

pub mod MentionLemmas
pub mod DescriptionLemmas
pub mod CallLemmas
pub mod HelpLemmas
pub mod LeftLemmas
pub mod ReadableLemmas

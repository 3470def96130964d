-- The definition of a tree without what stands at some paths (own).
pub mod Hidden
-- for this crate's own contracts alone
pub mod Left

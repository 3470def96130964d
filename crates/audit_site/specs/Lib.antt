pub mod Walks
pub mod WithoutVersion
pub mod WalkLooked
pub mod Audits
pub mod Looked
pub mod Missing
pub mod Unread
pub mod NoModulefiles
pub mod Folders
-- for the contracts of private functions
pub mod WalkParts
pub mod DeterministicRuns
pub mod Findings
pub mod Mentions
pub mod FilesBelow
pub mod Unreachable
pub mod Parts

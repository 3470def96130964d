-- Names below directories, those that are selected, versions, candidates and default files.
pub mod Single
pub mod Candidates
pub mod Selections
pub mod BelowFolder
pub mod NamesBelow
pub mod DefaultVersions
-- How the type of the code shows the result of an evaluation.
pub mod Ended
-- The versions of a name, and the two default files, as the code has them.
pub mod Versions
pub mod DefaultFileKinds
-- What names mean, what is listed, and what default files say: the definitions of this crate.
pub mod Reasons
pub mod DefaultFiles
pub mod Found
pub mod Listed
pub mod Looked
-- How the types of the code show them.
pub mod Answers
pub mod FileContents
pub mod ListingEntries
pub mod Listings
-- For this crate's own contracts alone.
pub mod VersionsNamed
pub mod Steps
pub mod Marks
pub mod Walks

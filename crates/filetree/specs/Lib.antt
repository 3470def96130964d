pub mod hiding
-- Trees of files, modulefiles at paths, and the relations of calls over a tree.
pub mod Agreement
pub mod Causes
pub mod Contents
pub mod Disk
pub mod Known
pub mod Modulefiles
pub mod Names
pub mod Prefixes
pub mod Relations
pub mod Systems
pub mod Utf8

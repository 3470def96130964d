-- Default files: `.modulerc` and `.version` in the folder of a name, and the version that each names (modulefile(5);
-- that `.modulerc` goes first is this tool's own). The results of evaluations are a parameter here, named `results`: by
-- the path and the text of a script its result, or none where its evaluation has a fault. The crate `lookup`
-- gives them by the rules of evaluation.
use Rattle.std.specs.Prelude.{◌≡◌, Option, Some, None, Result, Ok, Err}
use Rattle.modulename.specs.ModuleName.{Text}
use Rattle.filetree.specs.Modulefiles.{FileContent, absent, no_cookie, not_utf8, script, modulefile}
use Rattle.filetree.specs.Agreement.{Files}
use Rattle.filetree.specs.Relations.{Is}
use Rattle.search.specs.Reasons.{FindReason, bad_default}
pub use Rattle.search.specs.DefaultVersions.{DefaultFileResult, after_prefix, version_in, default_by, last_default}
pub use Rattle.search.specs.DefaultVersions.{VersionIn, by_command, by_variable}

-- the version that a default file names, by the result of its evaluation; the reason is a fault of the evaluation
abbrev pub version_named : VersionIn → Text → Option DefaultFileResult → Result (Option Text) FindReason
version_named says path None = Err (bad_default path)
version_named says path (Some result) = Ok (says result)

-- By what its path holds, a default file names a version or none. Without a file, or without the cookie, it names none.
abbrev pub NamesIn : (Text → Text → Option DefaultFileResult → Type 0) → VersionIn → Text → FileContent → Result
    (Option Text) FindReason
    → Type 0
NamesIn results says path absent o = Is (Ok None) o
NamesIn results says path no_cookie o = Is (Ok None) o
NamesIn results says path not_utf8 o = Is (Err (bad_default path)) o
NamesIn results says path (script text) o = (result : Option DefaultFileResult) × results path text result ×
    (o ≡ version_named says path result)

-- The default file at a path names this version, or none, or has a fault.
abbrev pub Names : (Text → Text → Option DefaultFileResult → Type 0) → Files → VersionIn → Text → Result
    (Option Text) FindReason
    → Type 0
Names results files says path o = NamesIn results says path (modulefile (files path)) o

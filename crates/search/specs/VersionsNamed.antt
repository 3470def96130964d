-- The versions that default files name, with one definition for the two files as the code has it. For this crate's own
-- contracts alone.
use Rattle.std.specs.Prelude.{◌≡◌, Option, Some, None, Result, Ok, Err, string_bytes}
use Rattle.modulename.specs.ModuleName.{Text}
use Rattle.filetree.specs.Agreement.{Files, Listings}
use Rattle.filetree.specs.Relations.{Is, Where, ◌>>◌}
use Rattle.search.specs.Reasons.{FindReason, bad_default}
use Rattle.search.specs.DefaultVersions.{DefaultFileResult}
use Rattle.search.specs.DefaultFileKinds.{file_name, says}
use Rattle.search.specs.DefaultFiles.{Names}
use Rattle.search.specs.Candidates.{IsCandidate}
use Rattle.search.specs.Found.{IsSomeCandidate, default_file}
use Rattle.search.specs.declared.version_named.DefaultFile.{DefaultFile}
use Rattle.search.specs.declared.defaults.NamedVersion.{NamedVersion}
use Rattle.search.specs.declared.defaults.NamedVersion.TheVariants as versions

-- the version that default files name: one, none, or the reason that is the fault of a default file
abbrev pub named_version_view : NamedVersion → Result (Option Text) FindReason
named_version_view versions.Nothing = Ok None
named_version_view (versions.Version version) = Ok (Some (string_bytes version))
named_version_view (versions.BadFile path) = Err (bad_default (string_bytes path))

-- the version, where it is a candidate, or else none
abbrev pub IsCandidateIfAny : (Text → Type 0) → Text → Option Text → Type 0
IsCandidateIfAny IsOne version None = IsOne version → ⊥
IsCandidateIfAny IsOne version (Some v) = IsOne version × (v ≡ version)

-- the candidate that one of the default files names, if it names one
abbrev pub NamedBy : (Text → Text → Option DefaultFileResult → Type 0) → Files → Listings → Text → Text → DefaultFile
    → Result (Option Text) FindReason → Type 0
NamedBy results files listings dir name file =
    Names results files (says file name) (default_file dir name (file_name file)) >> (λ v.
    Where (IsSomeCandidate (IsCandidate files listings dir name) v) (Is (Ok v)) (Is (Ok None)))

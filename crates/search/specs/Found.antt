-- Which modulefile a name means (module(1), modulefile(5)): the search along MODULEPATH, with the candidates of a
-- folder and its default. `results` relates the path and text of a default file to the result of its evaluation.
use Rattle.std.specs.Prelude.{◌≡◌, List, [], ◌∷◌, codes, Option, Some, None, Result, Ok, Err}
use Rattle.modulename.specs.ModuleName.{Text, is_module_name}
use Rattle.filetree.specs.Agreement.{Files, Listings}
use Rattle.filetree.specs.Modulefiles.{FileContent, absent, no_cookie, not_utf8, script, modulefile, directories}
use Rattle.filetree.specs.Modulefiles.{path_of}
use Rattle.filetree.specs.Relations.{Is, If, Where, ◌>>◌}
use Rattle.modulename.specs.Versions.{IsGreatest}
use Rattle.search.specs.Reasons.{FindReason, bad_name, not_found, not_utf8_at}
use Rattle.search.specs.DefaultVersions.{DefaultFileResult, by_command, by_variable}
use Rattle.search.specs.DefaultFiles.{Names}
pub use Rattle.search.specs.Candidates.{IsModuleAt, HasEntry, IsCandidate, HasCandidates}

-- some version is named, and it is a candidate
abbrev pub IsSomeCandidate : (Text → Type 0) → Option Text → Type 0
IsSomeCandidate Candidate None = ⊥
IsSomeCandidate Candidate (Some v) = Candidate v

-- the path of a default file in the folder of a name
abbrev pub default_file : Text → Text → Text → Text
default_file dir name file = path_of (path_of dir name) file

-- The candidate that the default files of a folder name, if they name one: `.modulerc`, or else `.version`, which is
-- not read where `.modulerc` names a candidate.
abbrev pub NamedDefault : (Text → Text → Option DefaultFileResult → Type 0) → Files → Listings → Text → Text
    → Result (Option Text) FindReason → Type 0
NamedDefault results files listings dir name =
    Names results files (by_command name) (default_file dir name (codes ".modulerc")) >> (λ first.
    Where (IsSomeCandidate (IsCandidate files listings dir name) first) (Is (Ok first)) (
    Names results files by_variable (default_file dir name (codes ".version")) >> (λ second.
    Where (IsSomeCandidate (IsCandidate files listings dir name) second) (Is (Ok second)) (Is (Ok None)))))

-- the greatest candidate
abbrev pub Greatest : Files → Listings → Text → Text → Result Text FindReason → Type 0
Greatest files listings dir name o = (v : Text) × IsGreatest (IsCandidate files listings dir name) v × (o ≡ Ok v)

-- the candidate that default files name, or else the greatest
abbrev pub NamedOrGreatest : Files → Listings → Text → Text → Option Text → Result Text FindReason → Type 0
NamedOrGreatest files listings dir name (Some v) = Is (Ok v)
NamedOrGreatest files listings dir name None = Greatest files listings dir name

-- the default candidate of a folder: the one that its default files name, or else the greatest
abbrev pub DefaultVersion : (Text → Text → Option DefaultFileResult → Type 0) → Files → Listings → Text → Text
    → Result Text FindReason → Type 0
DefaultVersion results files listings dir name =
    NamedDefault results files listings dir name >> NamedOrGreatest files listings dir name

-- a module that was found: its full name, its path and its text
pub record FoundModule : Type 0 where
  pub name : Text
  pub path : Text
  pub text : Text

-- the module of this full name at a path, by what the path holds
abbrev pub found_module : Text → Text → FileContent → Result FoundModule FindReason
found_module name path absent = Err (not_found name)
found_module name path no_cookie = Err (not_found name)
found_module name path not_utf8 = Err (not_utf8_at path)
found_module name path (script text) = Ok (record { name = name; path = path; text = text })

-- the module of this full name below a directory
abbrev pub ModuleAt : Files → Text → Text → Result FoundModule FindReason → Type 0
ModuleAt files dir name = Is (found_module name (path_of dir name) (modulefile (files (path_of dir name))))

-- The module of the first directory that gives one: the file of this name, or else the default candidate of the folder
-- of this name.
abbrev pub FoundAlong : (Text → Text → Option DefaultFileResult → Type 0) → Files → Listings → Text → List Text
    → Result FoundModule FindReason → Type 0
FoundAlong results files listings name [] = Is (Err (not_found name))
FoundAlong results files listings name (dir ∷ dirs) =
    Where (IsModuleAt files (path_of dir name)) (ModuleAt files dir name) (
    Where (HasCandidates files listings dir name)
    (DefaultVersion results files listings dir name >> (λ v. ModuleAt files dir (path_of name v))) (
    FoundAlong results files listings name dirs))

-- What a name means along a MODULEPATH.
abbrev pub Found : (Text → Text → Option DefaultFileResult → Type 0) → Files → Listings → Text → Text
    → Result FoundModule FindReason
    → Type 0
Found results files listings modulepath name =
    If (is_module_name name) (FoundAlong results files listings name (directories modulepath))
    (Is (Err (bad_name name)))

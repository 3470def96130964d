-- The search of Found, step by step as the code does it. For this crate's own contracts alone.
use Rattle.std.specs.Prelude.{Option, Some, None, Result, Ok, Err}
use Rattle.modulename.specs.ModuleName.{Text}
use Rattle.filetree.specs.Agreement.{Files, Listings}
use Rattle.filetree.specs.Modulefiles.{FileContent, absent, no_cookie, not_utf8, script, modulefile, path_of}
use Rattle.filetree.specs.Relations.{Is, Where, ◌>>◌}
use Rattle.search.specs.Reasons.{FindReason, not_utf8_at}
use Rattle.search.specs.DefaultVersions.{DefaultFileResult}
use Rattle.search.specs.Found.{FoundModule, DefaultVersion}
use Rattle.search.specs.Candidates.{IsModuleAt, HasCandidates}

-- the module of this full name that a path holds, if it holds one
abbrev pub module_in : Text → Text → FileContent → Result (Option FoundModule) FindReason
module_in name path absent = Ok None
module_in name path no_cookie = Ok None
module_in name path not_utf8 = Err (not_utf8_at path)
module_in name path (script text) = Ok (Some (record { name = name; path = path; text = text }))

-- the module of this full name below a directory, if there is one
abbrev pub module_at : Files → Text → Text → Result (Option FoundModule) FindReason
module_at files dir name = module_in name (path_of dir name) (modulefile (files (path_of dir name)))

-- the default candidate of a folder, if it has a candidate
abbrev pub DefaultIn : (Text → Text → Option DefaultFileResult → Type 0) → Files → Listings → Text → Text
    → Result (Option Text) FindReason → Type 0
DefaultIn results files listings dir name =
    Where (HasCandidates files listings dir name) (DefaultVersion results files listings dir name >> (λ v. Is (Ok (Some v))))
    (Is (Ok None))

-- the module of the default candidate, if there is one
abbrev pub OfDefault : Files → Text → Text → Option Text → Result (Option FoundModule) FindReason → Type 0
OfDefault files dir name None = Is (Ok None)
OfDefault files dir name (Some v) = Is (module_at files dir (path_of name v))

-- the module that one directory gives, if it gives one
abbrev pub FoundBelow : (Text → Text → Option DefaultFileResult → Type 0) → Files → Listings → Text → Text
    → Result (Option FoundModule) FindReason → Type 0
FoundBelow results files listings dir name =
    Where (IsModuleAt files (path_of dir name)) (Is (module_at files dir name))
    (DefaultIn results files listings dir name >> OfDefault files dir name)

-- The text of a module that was found is the script at its path.
use Rattle.std.proofs.Common.{◌≡◌, inl, inr, true, false, Bool, List, [], ◌∷◌, Option, Ok, Err, refl, subst}
use Rattle.modulename.specs.ModuleName.{Text, is_module_name}
use Rattle.filetree.specs.Agreement.{Files, Listings}
use Rattle.filetree.specs.Modulefiles.{FileContent, absent, no_cookie, not_utf8, script, modulefile, directories}
use Rattle.filetree.specs.Modulefiles.{path_of}
use Rattle.filetree.specs.Relations.{Is, If}
use Rattle.search.specs.Reasons.{bad_name, not_found}
use Rattle.search.specs.DefaultFiles.{DefaultFileResult}
use Rattle.search.specs.Found.{DefaultVersion, FoundModule, found_module, ModuleAt, FoundAlong, Found}
use Rattle.requests.proofs.Bound.{went_on}

abbrev pub IsScript : Files → FoundModule → Type 0
IsScript files m = modulefile (files m.path) ≡ script m.text

at_held : (files : Files) (name path : Text) (held : FileContent) (m : FoundModule) → modulefile (files path) ≡ held → Ok m ≡ found_module name path held → IsScript files m
at_held files name path absent m e h = absurd (cc)
at_held files name path no_cookie m e h = absurd (cc)
at_held files name path not_utf8 m e h = absurd (cc)
at_held files name path (script text) m e h =
    let made : FoundModule = record { name = name; path = path; text = text } in
    let same : made ≡ m = (let q : Ok m ≡ Ok made = h in cc) in
    subst (IsScript files) same e

at_text : (files : Files) (dir name : Text) (m : FoundModule) → ModuleAt files dir name (Ok m) → IsScript files m
at_text files dir name m h = at_held files name (path_of dir name) (modulefile (files (path_of dir name))) m refl h

along_text : (results : Text → Text → Option DefaultFileResult → Type 0) (files : Files) (listings : Listings)
    (name : Text) (dirs : List Text) (m : FoundModule) → FoundAlong results files listings name dirs (Ok m)
    → IsScript files m
along_text results files listings name [] m h = absurd (let q : Ok m ≡ Err (not_found name) = h in cc)
along_text results files listings name (dir ∷ dirs) m (inl (fact, h)) = at_text files dir name m h
along_text results files listings name (dir ∷ dirs) m (inr (none, inl (some, h))) =
    let g = went_on (DefaultVersion results files listings dir name) (λ v. ModuleAt files dir (path_of name v)) m h in
    at_text files dir (path_of name g.0) m g.2
along_text results files listings name (dir ∷ dirs) m (inr (none, inr (no_candidate, h))) = along_text results files listings name dirs m h

found_if : (results : Text → Text → Option DefaultFileResult → Type 0) (files : Files) (listings : Listings)
    (name : Text) (dirs : List Text) (m : FoundModule) (spelled : Bool)
    → If spelled (FoundAlong results files listings name dirs) (Is (Err (bad_name name))) (Ok m) → IsScript files m
found_if results files listings name dirs m true h = along_text results files listings name dirs m h
found_if results files listings name dirs m false h = absurd (let q : Ok m ≡ Err (bad_name name) = h in cc)

pub found_text : (results : Text → Text → Option DefaultFileResult → Type 0) (files : Files) (listings : Listings)
    (modulepath name : Text) (m : FoundModule) → Found results files listings modulepath name (Ok m) → IsScript files m
found_text results files listings modulepath name m h = found_if results files listings name (directories modulepath) m (is_module_name name) h

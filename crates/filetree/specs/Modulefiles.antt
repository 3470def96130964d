-- Modulefiles at paths, and the paths of modules along MODULEPATH (module(1), modulefile(5)).
use Rattle.std.specs.Prelude.{ℕ, Bool, true, false, not, List, [], ◌∷◌, ◌++◌, filter, nat_eq, ◌==◌, codes}
use Rattle.std.specs.Prelude.{if◌then◌else◌, Option, Some, None}
use Rattle.std.specs.List.{slice_split, starts_with}
use Rattle.modulename.specs.ModuleName.{Text, slash}
use Rattle.filetree.specs.Utf8.{is_text}

-- the bytes that a modulefile begins with (modulefile(5))
abbrev pub cookie : Text
cookie = codes "#%Module"

-- what a path holds as a modulefile: no file; a file without the cookie; a file with the cookie that is not
-- UTF-8; or a script
pub data FileContent : Type 0 where
  absent : FileContent
  no_cookie : FileContent
  not_utf8 : FileContent
  script : Text → FileContent

-- by the file at a path; a missing cookie is judged before bytes that are not UTF-8
abbrev pub modulefile : Option (List ℕ) → FileContent
modulefile None = absent
modulefile (Some bytes) =
    if starts_with nat_eq bytes cookie then (if is_text bytes then script bytes else not_utf8) else no_cookie

-- a file with the cookie is a module, UTF-8 or not
abbrev pub is_module : FileContent → Bool
is_module absent = false
is_module no_cookie = false
is_module not_utf8 = true
is_module (script text) = true

-- the separator of the directories of MODULEPATH
abbrev pub colon : ℕ
colon = 58

-- the text has no byte
abbrev pub is_empty : Text → Bool
is_empty [] = true
is_empty (b ∷ bs) = false

-- the directories of a MODULEPATH, in order; its empty entries are skipped
abbrev pub directories : Text → List Text
directories modulepath = filter (λ dir. not (is_empty dir)) (slice_split (λ b. b == colon) modulepath)

-- the path of a module below a directory
abbrev pub path_of : Text → Text → Text
path_of dir name = dir ++ slash ∷ name

-- Which records a command of Environment Modules 5.2 asks for, by its words (modulefile(5), and module(1) for `module`). What a
-- name stands for is a list of modules, of which any one will do. Commands with other options aren't rewritten.
use Rattle.std.specs.Prelude.{◌≡◌, List, [], ◌∷◌, All, codes}
use Rattle.tcltext.specs.chars.Runs.{Text}
use Rattle.modulename.specs.ModuleName.{slash}
use Rattle.modulefile.specs.Records.{Record}
use Rattle.modulefile.specs.declared.records.PathEdit.{PathEdit}
use Rattle.modulefile.specs.declared.records.PathEdit.TheVariants.{Front, Back}
use Rattle.port_rewriting.specs.Meanings.{each_needed, any_needed, added}

-- the lists stand for the names, one for each
abbrev pub EachStands : (Text → List Text → Type 0) → List Text → List (List Text) → Type 0
EachStands Stands [] [] = Unit {0}
EachStands Stands [] (modules ∷ lists) = ⊥
EachStands Stands (name ∷ names) [] = ⊥
EachStands Stands (name ∷ names) (modules ∷ lists) = Stands name modules × EachStands Stands names lists

-- each of the names is needed
abbrev pub AreNeeded : (Text → List Text → Type 0) → List Text → List Record → Type 0
AreNeeded Stands names rs = (lists : List (List Text)) × EachStands Stands names lists × (rs ≡ each_needed lists)

-- one of the names is needed
abbrev pub IsOneNeeded : (Text → List Text → Type 0) → List Text → List Record → Type 0
IsOneNeeded Stands names rs = (lists : List (List Text)) × EachStands Stands names lists × (rs ≡ any_needed lists)

-- each of some names is needed
abbrev pub AreSomeNeeded : (Text → List Text → Type 0) → List Record → Type 0
AreSomeNeeded Stands rs = (names : List Text) × AreNeeded Stands names rs

-- a path from the root
abbrev pub IsAbsolute : Text → Type 0
IsAbsolute path = (rest : Text) × (path ≡ slash ∷ rest)

-- directories are searched, at this end
abbrev pub AreAdded : PathEdit → List Text → List Record → Type 0
AreAdded edit directories rs = All IsAbsolute directories × (rs ≡ added edit (codes "MODULEPATH") directories)

-- the words of `module use`: maybe an option, which the program takes in these spellings, and directories
pub data AreUsed : List Text → List Record → Type 0 where
  first : {words : List Text} {rs : List Record} → AreAdded Front words rs → AreUsed words rs
  p : {words : List Text} {rs : List Record} → AreAdded Front words rs → AreUsed (codes "-p" ∷ words) rs
  prepend : {words : List Text} {rs : List Record} → AreAdded Front words rs → AreUsed (codes "--prepend" ∷ words) rs
  old_prepend : {words : List Text} {rs : List Record} → AreAdded Front words rs → AreUsed (codes "-prepend" ∷ words) rs
  a : {words : List Text} {rs : List Record} → AreAdded Back words rs → AreUsed (codes "-a" ∷ words) rs
  append : {words : List Text} {rs : List Record} → AreAdded Back words rs → AreUsed (codes "--append" ∷ words) rs
  old_append : {words : List Text} {rs : List Record} → AreAdded Back words rs → AreUsed (codes "-append" ∷ words) rs

-- The words of a command ask for records, where names stand for lists, the words behind `family` ask for records so, and scripts
-- of aliases for these. What `module load` asks for is that what it loads is there.
pub data AsksFor (Stands : Text → List Text → Type 0) (Family : List Text → List Record → Type 0) (Script : List Record → Type 0)
    : List Text → List Record → Type 0 where
  depends_on : {names : List Text} {rs : List Record} → AreNeeded Stands names rs
      → AsksFor Stands Family Script (codes "depends-on" ∷ names) rs
  prereq_all : {names : List Text} {rs : List Record} → AreNeeded Stands names rs
      → AsksFor Stands Family Script (codes "prereq-all" ∷ names) rs
  prereq_any : {names : List Text} {rs : List Record} → IsOneNeeded Stands names rs
      → AsksFor Stands Family Script (codes "prereq-any" ∷ names) rs
  load : {names : List Text} {rs : List Record} → AreNeeded Stands names rs
      → AsksFor Stands Family Script (codes "module" ∷ (codes "load" ∷ names)) rs
  add : {names : List Text} {rs : List Record} → AreNeeded Stands names rs
      → AsksFor Stands Family Script (codes "module" ∷ (codes "add" ∷ names)) rs
  try_load : {names : List Text} {rs : List Record} → AreNeeded Stands names rs
      → AsksFor Stands Family Script (codes "module" ∷ (codes "try-load" ∷ names)) rs
  using : {words : List Text} {rs : List Record} → AreUsed words rs
      → AsksFor Stands Family Script (codes "module" ∷ (codes "use" ∷ words)) rs
  family : {words : List Text} {rs : List Record} → Family words rs → AsksFor Stands Family Script (codes "family" ∷ words) rs
  set_alias : {words : List Text} {rs : List Record} → Script rs → AsksFor Stands Family Script (codes "set-alias" ∷ words) rs
  guard : {words : List Text} {rs : List Record} → AreSomeNeeded Stands rs → AsksFor Stands Family Script (codes "if" ∷ words) rs

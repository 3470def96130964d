-- What commands of Environment Modules ask for (modulefile(5) of Environment Modules 5.2), as records of this program's
-- evaluator. A name means a list of modules, of which any one will do.
use Rattle.std.specs.Prelude.{List, [], ◌∷◌, ◌++◌, codes, flat_map, map}
use Rattle.std.specs.Char.{to_ascii_uppercase}
use Rattle.tcltext.specs.chars.Runs.{Text}
use Rattle.tcltext.specs.chars.Bytes.{colon}
use Rattle.modulefile.specs.Records.{Record, Set, Path, Conflict, Prereq}
use Rattle.modulefile.specs.declared.records.PathEdit.{PathEdit}

-- `depends-on NAME...`, `prereq-all NAME...`, and `module load NAME...` once what it loads is there: each name is needed
abbrev pub each_needed : List (List Text) → List Record
each_needed lists = map Prereq lists

-- `prereq-any NAME...`: one of the names is needed
abbrev pub any_needed : List (List Text) → List Record
any_needed lists = Prereq (flat_map (λ modules. modules) lists) ∷ []

-- `module use DIR...` of MODULEPATH, at the front or, by `--append`, at the back
abbrev pub added : PathEdit → Text → List Text → List Record
added edit var directories = Path edit colon var directories ∷ []

-- the conflicts of a family, where there are others
abbrev pub conflict_with : List Text → List Record
conflict_with [] = []
conflict_with (name ∷ names) = Conflict (name ∷ names) ∷ []

-- a variable of a family, which begins so, names the module
abbrev pub names : Text → Text → Text → Record
names beginning family own = Set (beginning ++ map to_ascii_uppercase family) own

-- `family NAME`: the module excludes the others of the family, and two variables name it
abbrev pub in_family : Text → Text → List Text → List Record
in_family family own others =
    conflict_with others
    ++ (names (codes "MODULES_FAMILY_") family own ∷ (names (codes "LMOD_FAMILY_") family own ∷ []))

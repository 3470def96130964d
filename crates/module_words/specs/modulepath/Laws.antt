-- The laws of MODULEPATH as a list (own).
use Rattle.std.specs.Prelude.{◌≡◌, List, Option, Ok}
use Rattle.envvars.specs.Texts.{Text}
use Rattle.envvars.specs.Fields.{text_of_elements}
use Rattle.envstate.specs.declared.paths.adding.End.{End}
use Rattle.module_words.specs.modulepath.ModulePaths.{directories_in, used, unused}
use Rattle.module_words.specs.modulepath.Words.{each, holdable}

-- the list that `use` makes with the paths of words is the one that its text is read as
abbrev pub UsedIsReadAgain : Type 0
UsedIsReadAgain =
    (working : Option Text) (end : End) (words paths : List Text) (old : Option Text)
    → each (holdable working) words ≡ Ok paths
    → directories_in (text_of_elements (used working end paths (directories_in old)))
    ≡ used working end paths (directories_in old)

-- and so is the list that `unuse` leaves
abbrev pub UnusedIsReadAgain : Type 0
UnusedIsReadAgain =
    (working : Option Text) (paths : List Text) (old : Option Text)
    → directories_in (text_of_elements (unused working paths (directories_in old)))
    ≡ unused working paths (directories_in old)

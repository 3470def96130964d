-- The name of a command among its words (Tcl(n), rule 2). Own.
use Rattle.std.specs.Prelude.{List, [], ◌∷◌, String, string_bytes}
use Rattle.std.specs.declared.alloc.Global.{Global}
use Rattle.tcltext.specs.chars.Runs.{Text}

-- the first of these words
abbrev pub name_of : List (String Global) → Text
name_of [] = []
name_of (name ∷ operands) = string_bytes name

-- What the scripts under evaluation of the program stand for. Own.
use Rattle.std.specs.Prelude.{ℕ, Bool, false, nat_lt, List, [], ◌∷◌, reverse, string_bytes}
use Rattle.tclrules.specs.Derivation.{OpenScript}
use Rattle.tcleval.specs.declared.open_scripts.OpenScript as program
use Rattle.tcleval.specs.declared.open_scripts.OpenScripts.TheInside.{Inside}
use Rattle.tcleval.specs.declared.places.SoughtScript.{SoughtScript}

-- the scripts, the innermost first, where its current command has this offset
abbrev pub entries_view : ℕ → List program.OpenScript → List OpenScript
entries_view offset [] = []
entries_view offset (e ∷ es) =
    record { remaining = e.remaining; text = string_bytes e.tree.value.text; offset = offset }
    ∷ entries_view e.outer_offset es

abbrev pub scripts_view : Inside → List OpenScript
scripts_view s = entries_view s.offset (reverse s.entries.items)

-- fewer than so many scripts may still be nested inside of the innermost
abbrev pub begins_inside : ℕ → List OpenScript → Bool
begins_inside remaining [] = false
begins_inside remaining (s ∷ scripts) = nat_lt s.remaining remaining

-- a script whose text is looked for
abbrev pub script_view : SoughtScript → OpenScript
script_view s = record { remaining = s.remaining; text = s.text.now; offset = s.offset }

-- the scripts of a list, the outermost first, where the innermost one's current command has this offset
abbrev pub outer_view : ℕ → List program.OpenScript → List OpenScript
outer_view offset [] = []
outer_view offset (e ∷ []) =
    record { remaining = e.remaining; text = string_bytes e.tree.value.text; offset = offset } ∷ []
outer_view offset (e ∷ f ∷ es) =
    record { remaining = e.remaining; text = string_bytes e.tree.value.text; offset = f.outer_offset }
    ∷ outer_view offset (f ∷ es)

-- Values of names, of which the first counts where a name comes again (proc(n)). Own.
use Rattle.std.specs.Prelude.{◌≡◌, List, [], ◌∷◌, ◌++◌, map, if◌then◌else◌, bytes_eq, Ok, String}
use Rattle.std.specs.List.{list_any}
use Rattle.std.specs.Borrow.{Bor}
use Rattle.std.specs.declared.alloc.Global.{Global}
use Rattle.tcltext.specs.chars.Runs.{Text}
use Rattle.tclvalue.specs.operators.Faults.{Answer, ◌>>=◌}
use Rattle.tclrules.specs.Variables.{Variables, without}
use Rattle.tclforms.specs.ArgumentViews.{named_values}

-- these are the names of the values, in the same order
abbrev pub AreNamesOf : List (Bor Text) → List (Bor Text × String Global) → Type 0
AreNamesOf ks vs = map (λ k. k.now) ks ≡ map (λ v. v.0) (named_values vs)

-- values with one more at the end, unless its name has one
abbrev pub with_first : Variables → Text → Text → Variables
with_first vs name value = if list_any (bytes_eq name) (map (λ v. v.0) vs) then vs else vs ++ (name, value) ∷ []

-- without the names of these
abbrev pub except : Variables → Variables → Variables
except [] vs = vs
except (d ∷ ds) vs = except ds (without vs d.0)

-- these values, and those of an answer whose names are none of theirs
abbrev pub prefixed_firsts : Variables → Answer Variables → Answer Variables
prefixed_firsts done more = more >>= (λ rest. Ok (done ++ except done rest))

-- Lists that are made from the first element on, and the parameters of a procedure (proc(n)). Own.
use Rattle.std.specs.Prelude.{List, ◌++◌, Ok}
use Rattle.tcltext.specs.chars.Runs.{Text}
use Rattle.tclvalue.specs.operators.Faults.{Answer, ◌>>=◌}
use Rattle.tclvalue.specs.operators.Elements.{elements_of}
use Rattle.tclrules.specs.Variables.{Parameter}
use Rattle.tclrules.specs.Plans.{Items}
use Rattle.tclrules.specs.Rules.{named, parameters, unless_reserved}

-- these elements before those of an answer
abbrev pub prefixed : {A : Type 0} → List A → Answer (List A) → Answer (List A)
prefixed done more = more >>= (λ rest. Ok (done ++ rest))

-- the parameters of a procedure of this name, in the text that proc has for them
abbrev pub defined : List Text → Text → Text → Answer (List Parameter)
defined reserved name lists = unless_reserved reserved name (elements_of lists >>= parameters)

-- the variables and the items of one list of a foreach
abbrev pub one_loop : Text × Text → Answer Items
one_loop p = elements_of p.0 >>= named >>= (λ vs. elements_of p.1 >>= (λ es. Ok (vs, es)))

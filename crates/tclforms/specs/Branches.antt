-- How the words of if(n) and foreach(n) are read from the first on. Own.
use Rattle.std.specs.Prelude.{List, [], ◌∷◌, ◌++◌, if◌then◌else◌, Option, Some, None, Ok, codes, bytes_eq}
use Rattle.tcltext.specs.chars.Runs.{Text}
use Rattle.tclvalue.specs.operators.Faults.{Answer, ◌>>=◌}
use Rattle.tclrules.specs.Forms as forms
use Rattle.tclrules.specs.Forms.{Branches}
use Rattle.tclforms.specs.Views.{texts_of}
use Rattle.tclforms.specs.declared.conditional.Branch.{Branch}

-- a condition with its body, and the words after them
abbrev pub FirstBranch : Type 0
FirstBranch = Text × Text × List Text

-- the branch with this condition, from the words after then on
abbrev pub after_then : Text → List Text → Option FirstBranch
after_then c [] = None
after_then c (b ∷ ws) = Some (c, b, ws)

-- the branch that the words begin with, from its condition on
abbrev pub first_branch : List Text → Option FirstBranch
first_branch [] = None
first_branch (c ∷ []) = None
first_branch (c ∷ w ∷ ws) = if bytes_eq w (codes "then") then after_then c ws else Some (c, w, ws)

abbrev pub branch_view : Branch → FirstBranch
branch_view b = (b.condition.now, b.body.now, texts_of b.rest.now)

-- the words after elseif, where they begin with it
abbrev pub after_elseif : List Text → Option (List Text)
after_elseif [] = None
after_elseif (w ∷ ws) = if bytes_eq w (codes "elseif") then Some ws else None

-- these pairs before those of an answer, whose other part stays
abbrev pub prefixed_pairs : {A : Type 0} → List (Text × Text) → Answer (List (Text × Text) × A)
    → Answer (List (Text × Text) × A)
prefixed_pairs ps more = more >>= (λ m. Ok (ps ++ m.0, m.1))

-- the form of if with these branches
abbrev pub if_of : Answer Branches → Answer forms.Form
if_of more = more >>= (λ m. Ok (forms.If m.0 m.1))

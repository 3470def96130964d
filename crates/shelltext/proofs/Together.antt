-- Texts that are run one after the other.
use Rattle.std.proofs.Common.{◌≡◌, List, [], ◌∷◌, refl, sym, ◌∙◌, subst}
use Rattle.envvars.specs.Environment.{Environment}
use Rattle.shelltext.specs.Reading.{OneEffect, DifferenceMakes}
use Rattle.shelltext.specs.Sequences.{ShellRun, TextsMake, SayDifferences, last_of}

pub one_together : OneEffect → (runs : List ShellRun) (old new other : Environment) → TextsMake runs old new → TextsMake runs old other → new ≡ other
one_together one [] old new other h k = h ∙ sym k
one_together one (run ∷ runs) old new other h k =
    let same = one run.0 run.1 old k.0 h.0 k.1 h.1 in
    let P : Environment → Type 0 = λ e. TextsMake runs e other in
    one_together one runs h.0 new other h.2 (subst P same k.2)

pub chain : DifferenceMakes → (runs : List ShellRun) (old : Environment) (later : List Environment) → SayDifferences runs old later → TextsMake runs old (last_of old later)
chain makes [] old [] h = refl
chain makes [] old (new ∷ later) h = absurd h
chain makes (run ∷ runs) old [] h = absurd h
chain makes (run ∷ runs) old (new ∷ later) h = (new, makes run.0 run.1 old new h.0, chain makes runs new later h.1)

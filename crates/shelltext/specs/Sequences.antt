-- Texts that are run one after the other, each by its own shell: the environment that a user has after all commands so
-- far (own).
use Rattle.std.specs.Prelude.{◌≡◌, List, [], ◌∷◌}
use Rattle.envvars.specs.Texts.{Text}
use Rattle.envvars.specs.Environment.{Environment}
use Rattle.shelltext.specs.declared.shell.Shell.{Shell}
use Rattle.shelltext.specs.Reading.{TextMakes, SaysDifference}

-- a text, and the shell that runs it
abbrev pub ShellRun : Type 0
ShellRun = Shell × Text

-- the runs turn the old environment into the new one, each beginning with the environment that the one before it left
abbrev pub TextsMake : List ShellRun → Environment → Environment → Type 0
TextsMake [] old new = new ≡ old
TextsMake (run ∷ runs) old new =
    (between : Environment) × TextMakes run.0 run.1 old between × TextsMake runs between new

-- Each text says the difference between the environment before it and the next of these.
abbrev pub SayDifferences : List ShellRun → Environment → List Environment → Type 0
SayDifferences [] old [] = Unit {0}
SayDifferences [] old (new ∷ later) = ⊥
SayDifferences (run ∷ runs) old [] = ⊥
SayDifferences (run ∷ runs) old (new ∷ later) = SaysDifference run.0 run.1 old new × SayDifferences runs new later

-- the last of the environments, or the first where there is no other
abbrev pub last_of : Environment → List Environment → Environment
last_of old [] = old
last_of old (new ∷ later) = last_of new later

-- runs turn an environment into one environment
abbrev pub OneEffectTogether : Type 0
OneEffectTogether =
    (runs : List ShellRun) (old new other : Environment) → TextsMake runs old new → TextsMake runs old other
    → new ≡ other

-- runs whose texts say the differences from each environment to the next turn the first into the last
abbrev pub DifferencesMake : Type 0
DifferencesMake =
    (runs : List ShellRun) (old : Environment) (later : List Environment) → SayDifferences runs old later
    → TextsMake runs old (last_of old later)

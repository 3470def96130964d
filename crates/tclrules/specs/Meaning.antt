-- What a script evaluates to. Own, over the rules.
use Rattle.std.specs.Prelude.{◌≡◌, ℕ, ◌+◌, ◌==◌, ◌<◌, ◌⊎◌, Bool, true, false, List, [], ◌∷◌, min, count_by, take}
use Rattle.tcltext.specs.chars.Runs.{Text}
use Rattle.tclrules.specs.Oracle.{CommandWords, Oracle, Trace, records_with, addition}
use Rattle.tclrules.specs.Derivation.{ByHost, EvaluationOutcome, Halted, OpenScript, World, Eval}
use Rattle.tclrules.specs.Playing.{Played, play}
use Rattle.tclrules.specs.Variables.{Variables, initial_state}
use Rattle.tclrules.specs.Plans.{Completion, Step}
use Rattle.tclrules.specs.Rules.{rule, file}
use Rattle.tclrules.specs.declared.limits.Limits.{Limits}

-- the plan of a script with these reserved names and global variables; a depth above 200 counts as 200
abbrev pub plan_of : Limits → Text → List Text → Variables → Step
plan_of l script reserved globals = file (min l.depth 200) script (initial_state reserved globals)

-- the world before a script: nothing is counted yet
abbrev pub first : Trace → World
first trace = record { used = 0; trace = trace; scripts = [] }

-- a script with these global variables evaluates to this outcome and world, from this trace of the host. Want of memory
-- may end it early where the flag says so, and not else
abbrev pub HasOutcome : Bool → Limits → Text → Variables → Oracle → Trace → EvaluationOutcome Completion → World
    → Type 0
HasOutcome may_lack_memory l script globals oracle trace o w = Eval may_lack_memory oracle l.commands
    (rule l.value_bytes)
    (plan_of l script oracle.reserved globals) (first trace) o w

-- the line, from 1, of an offset in a script, which counts the bytes before it
abbrev pub line_at : Text → ℕ → ℕ
line_at script offset = 1 + count_by (λ b. b == 10) (take offset script)

-- the offset in the file, in bytes, of its own current command: that of the outermost script
abbrev pub outermost : List OpenScript → ℕ
outermost [] = 0
outermost (s ∷ []) = s.offset
outermost (s ∷ t ∷ scripts) = outermost (t ∷ scripts)

-- For laws

-- a script, and all that its outcome depends on
-- (the settings of a request are `EvaluationSettings` of modules)
pub record Setting : Type 0 where
  pub limits : Limits
  pub script : Text
  pub globals : Variables
  pub oracle : Oracle
  pub trace : Trace

-- the outcome of a setting with memory enough
abbrev pub EvaluatesTo : Setting → EvaluationOutcome Completion → World → Type 0
EvaluatesTo s o w = HasOutcome false s.limits s.script s.globals s.oracle s.trace o w

-- the setting with another limit on commands, and with another oracle
abbrev pub limited_to : ℕ → Setting → Setting
limited_to n s = record s { limits = record s.limits { commands = n } }

abbrev pub with_oracle : Oracle → Setting → Setting
with_oracle oracle s = record s { oracle = oracle }

-- the script never ends: under some limit more than any number of commands and turns are counted
abbrev pub HasNoEnd : Setting → Type 0
HasNoEnd s = (n : ℕ) → (m : ℕ) × (o : EvaluationOutcome Completion) × (w : World) × EvaluatesTo (limited_to m s) o w ×
    (n < w.used)

-- the second outcome is the first, or a refusal by the host
abbrev pub IsSameOrRefused : EvaluationOutcome Completion → World → EvaluationOutcome Completion → World → Type 0
IsSameOrRefused o w o2 w2 = ((o2 ≡ o) × (w2 ≡ w)) ⊎ ((n : ℕ) × (o2 ≡ Halted (ByHost n)))

-- what holds of records still holds with what an answer adds
abbrev pub PreservedByAnswers : Oracle → (List CommandWords → Bool) → Type 0
PreservedByAnswers oracle holds = (rs : List CommandWords) (words : List Text) → holds rs ≡ true
    → holds (records_with rs (addition (oracle.command rs words))) ≡ true

-- a script evaluated by the function play, with at most so many steps one inside the other
abbrev pub play_file : Setting → ℕ → Played Completion
play_file s steps = play s.oracle s.limits.commands (rule s.limits.value_bytes) steps
    (plan_of s.limits s.script s.oracle.reserved s.globals) (first s.trace)

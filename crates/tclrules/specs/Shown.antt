-- How the outcome of a small script is shown, for worked examples. Own.
use Rattle.std.specs.Prelude.{◌≡◌, ℕ, false, true, List, [], ◌∷◌, Option, Some, None, codes}
use Rattle.tcltext.specs.chars.Runs.{Text}
use Rattle.tclrules.specs.Oracle.{CommandWords, Oracle, Question, OfCommand, Trace, Unknown, Done, Nothing}
use Rattle.tclrules.specs.Derivation.{Halt, EvaluationOutcome, Ended, Halted, World}
use Rattle.tclrules.specs.Recording.{commands_of_recorder, answer_of, value_in}
use Rattle.tclrules.specs.Plans.{Completion, Normal, Raised, Returned, Broken, Continued}
use Rattle.tclrules.specs.Meaning.{Setting, EvaluatesTo, line_at, outermost}
use Rattle.tclrules.specs.Places.{place_of}
use Rattle.tclrules.specs.declared.limits.Limits.{Limits}
use Rattle.tclrules.specs.declared.outcome.FaultPlace.{FaultPlace}

-- limits as those that modulefiles have, or with one of them changed
abbrev pub standard : Limits
standard = record { commands = 100000; depth = 200; value_bytes = 1048576 }

abbrev pub with_commands : ℕ → Limits
with_commands n = record standard { commands = n }

abbrev pub with_depth : ℕ → Limits
with_depth n = record standard { depth = n }

abbrev pub with_bytes : ℕ → Limits
with_bytes n = record standard { value_bytes = n }

-- the trace before a script
abbrev pub empty_trace : Trace
empty_trace = record { records = []; messages = []; asked = []; refused = None }

-- a host that has no command and no environment
abbrev pub nobody : Oracle
nobody = record { reserved = []; command = λ records words. Unknown false; variable = λ records name. None }

-- the example host in mode unload, with one variable in its environment
abbrev pub recording : Oracle
recording = record {
  reserved = commands_of_recorder;
  command = answer_of (codes "unload");
  variable = value_in ((codes "HOME", codes "/home/me") ∷ []);
}

-- a script without variables, within these limits
abbrev pub within : Limits → Text → Setting
within l script = record { limits = l; script = script; globals = []; oracle = nobody; trace = empty_trace }

-- the same with the example host
abbrev pub recorded : Limits → Text → Setting
recorded l script = record (within l script) { oracle = recording }

-- how a script ended: with a result and so many commands and turns counted, with an error's message and line, or halted
pub data Shown : Type 0 where
  Result : Text → ℕ → Shown
  Fails : Text → ℕ → Shown
  Halts : Halt → Shown
  Else : Shown

abbrev pub shown_of : Text → EvaluationOutcome Completion → World → Shown
shown_of script (Ended (Normal t s)) w = Result t w.used
shown_of script (Ended (Raised m s)) w = Fails m (line_at script (outermost w.scripts))
shown_of script (Ended (Returned t s)) w = Else
shown_of script (Ended (Broken s)) w = Else
shown_of script (Ended (Continued s)) w = Else
shown_of script (Halted h) w = Halts h

abbrev pub trace_of : EvaluationOutcome Completion → World → Trace
trace_of o w = w.trace

-- this view of the outcome of a script is that
abbrev pub Shows : {A : Type 0} → Setting → (EvaluationOutcome Completion → World → A) → A → Type 0
Shows s view a = (o : EvaluationOutcome Completion) × (w : World) × EvaluatesTo s o w × (view o w ≡ a)

abbrev pub Sees : Setting → Shown → Type 0
Sees s a = Shows s (shown_of s.script) a

-- the script ends normally with this result, and so many commands and turns are counted
abbrev pub Results : Text → Text → ℕ → Type 0
Results script result used = Sees (within standard script) (Result result used)

-- it ends with an error on this line with this message
abbrev pub RaisesOn : ℕ → Text → Text → Type 0
RaisesOn line script message = Sees (within standard script) (Fails message line)

-- it is halted for this within these limits
abbrev pub Stops : Limits → Text → Halt → Type 0
Stops l script h = Sees (within l script) (Halts h)

-- Evaluations with the example host

abbrev pub HostStops : Limits → Text → Halt → Type 0
HostStops l script h = Sees (recorded l script) (Halts h)

-- its trace has these records and messages, and this was asked
abbrev pub HostTraces : Text → List CommandWords → List Text → List Question → Type 0
HostTraces script records messages asked = Shows (recorded standard script) trace_of
    (record { records = records; messages = messages; asked = asked; refused = None })

-- the words of a setenv
abbrev pub setenv_words : Text → Text → CommandWords
setenv_words name value = codes "setenv" ∷ name ∷ value ∷ []

-- the example host was asked for its mode
abbrev pub asked_for_mode : Question
asked_for_mode = OfCommand (codes "mode" ∷ []) (Done (codes "unload") Nothing true)

-- where the evaluation of this file stood at its end
abbrev pub place_in : Text → EvaluationOutcome Completion → World → Option FaultPlace
place_in script o w = place_of script w.scripts

abbrev pub at_place : (outermost innermost line : ℕ) → Option FaultPlace
at_place outermost innermost line = Some (record { outermost = outermost; innermost = innermost; line = line })

-- its own command at the first offset, and the innermost at the second, in this line
abbrev pub EndsAt : (outermost innermost line : ℕ) → Text → Type 0
EndsAt outermost innermost line script =
    Shows (recorded standard script) (place_in script) (at_place outermost innermost line)

-- The laws of modulefiles (own).
use Rattle.std.specs.Prelude.{◌≡◌, ℕ, true, false, List, [], ◌∷◌, ◌++◌, Some, Result, Ok}
use Rattle.std.specs.List.{list_all}
use Rattle.envvars.specs.Texts.{Text}
use Rattle.tclrules.specs.Oracle as oracle
use Rattle.tclrules.specs.Oracle.{OracleAnswer, Question, Nothing, Done, Unknown, LeftOut, Refused, addition, is_question}
use Rattle.tclrules.specs.Derivation.{AnswersAsBefore}
use Rattle.tclrules.specs.declared.limits.Limits.{Limits}
use Rattle.modulefile.specs.Records.{Record}
use Rattle.modulefile.specs.Judgments.{is_allowed}
use Rattle.modulefile.specs.Effects.{Mode, load, unload, display, whatis, effects}
use Rattle.modulefile.specs.Calls.{call_of}
use Rattle.modulefile.specs.Answers.{FileContext, records_in, oracle_of, call_adds, call_asks}
use Rattle.modulefile.specs.Files.{Ran, FileReason, RunsFile, IsSameOrRefused, play}

-- A modulefile has one outcome at most, and has one.
abbrev pub OneOutcome : Type 0
OneOutcome =
    (limits : Limits) (c : FileContext) (text : Text) (o p : Result Ran FileReason) → RunsFile limits c text o
    → RunsFile limits c text p
    → o ≡ p

abbrev pub SomeOutcome : Type 0
SomeOutcome = (limits : Limits) (c : FileContext) (text : Text) → (o : Result Ran FileReason) × RunsFile limits c text o

-- the answer to a command that was done
abbrev pub IsDone : OracleAnswer → Type 0
IsDone (Done text adds asks) = Unit {0}
IsDone (Unknown asks) = ⊥
IsDone (LeftOut name asks) = ⊥
IsDone (Refused n name asks) = ⊥

-- What a command adds that is done, and whether it is a question, depends on its words alone: not on the mode, the
-- environment or the commands before it.
abbrev pub WordsDecide : Type 0
WordsDecide =
    (c : FileContext) (records : List oracle.CommandWords) (words : List Text) → IsDone
    ((oracle_of c).command records words)
    → (addition ((oracle_of c).command records words) ≡ call_adds words (call_of words))
    × (is_question ((oracle_of c).command records words) ≡ call_asks (call_of words))

-- A command that isn't done adds nothing and is no question.
abbrev pub NothingElseAdds : Type 0
NothingElseAdds =
    (c : FileContext) (records : List oracle.CommandWords) (words : List Text)
    → (IsDone ((oracle_of c).command records words) → ⊥)
    → (addition ((oracle_of c).command records words) ≡ Nothing) ×
    (is_question ((oracle_of c).command records words) ≡ false)

-- The environment that a file leaves is the effects of its records, in the mode at hand, on the environment before it.
abbrev pub RecordsHaveEffects : Type 0
RecordsHaveEffects =
    (limits : Limits) (c : FileContext) (text : Text) (ran : Ran) → RunsFile limits c text (Ok ran)
    → effects c.mode c.name ran.records c.before ≡ Ok ran.env

-- Each of them is allowed.
abbrev pub RecordsAreAllowed : Type 0
RecordsAreAllowed =
    (limits : Limits) (c : FileContext) (text : Text) (ran : Ran) → RunsFile limits c text (Ok ran)
    → list_all is_allowed ran.records ≡ true

-- a mode that changes nothing
abbrev pub ChangesNothing : Mode → Type 0
ChangesNothing load = ⊥
ChangesNothing unload = ⊥
ChangesNothing display = Unit {0}
ChangesNothing whatis = Unit {0}

-- In such a mode the environment is unchanged.
abbrev pub ShowingChangesNothing : Type 0
ShowingChangesNothing =
    (limits : Limits) (c : FileContext) (text : Text) (ran : Ran) → ChangesNothing c.mode → RunsFile limits c text
    (Ok ran)
    → ran.env ≡ c.before

-- A file that asked nothing leaves the same records in every context of the same name and path, whatever the mode, the
-- environment, the shell, the typed name and the loaded modules; or it is refused there.
abbrev pub PlainFilesAgree : Type 0
PlainFilesAgree =
    (limits : Limits) (c d : FileContext) (text : Text) (ran : Ran) (o : Result Ran FileReason) → RunsFile limits c text
    (Ok ran)
    → ran.asked ≡ [] → d.name ≡ c.name → d.path ≡ c.path → RunsFile limits d text o → IsSameOrRefused ran o

-- In the context each thing that a file asked is answered as it was, or refused, after whichever commands have left a
-- beginning of its records.
abbrev pub AnswersAgain : FileContext → Ran → Type 0
AnswersAgain d ran =
    (before after : List Question) (q : Question) → ran.asked ≡ before ++ q ∷ after
    → (commands : List oracle.CommandWords) (rs rest : List Record) → records_in commands ≡ Ok rs
    → ran.records ≡ rs ++ rest → AnswersAsBefore (oracle_of d) commands q

-- A file leaves the same records in every context of the same name and path that answers again what it asked; or it is
-- refused there.
abbrev pub AnsweredFilesAgree : Type 0
AnsweredFilesAgree =
    (limits : Limits) (c d : FileContext) (text : Text) (ran : Ran) (o : Result Ran FileReason) → RunsFile limits c text
    (Ok ran)
    → AnswersAgain d ran → d.name ≡ c.name → d.path ≡ c.path → RunsFile limits d text o → IsSameOrRefused ran o

-- What playing a file gives is its outcome.
abbrev pub PlayedRuns : Type 0
PlayedRuns =
    (limits : Limits) (c : FileContext) (text : Text) (steps : ℕ) (o : Result Ran FileReason)
    → play limits c text steps ≡ Some o
    → RunsFile limits c text o

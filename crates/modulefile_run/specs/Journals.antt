-- What a file has done so far (own).
use Rattle.std.specs.Prelude.{◌≡◌, ℕ, ◌==◌, List, ◌∷◌, [], ◌++◌, map, string_bytes, IfSome, if◌then◌else◌}
use Rattle.std.specs.Prelude.{Result, Ok, Err, refl}
use Rattle.std.specs.Coded.{Coded, code_by, coded×, coded_ℕ, coded_list}
use Rattle.envvars.specs.Texts.{Text}
use Rattle.envvars.specs.Environment.{Environment, environment_code}
use Rattle.modulefile.specs.Records as records
use Rattle.modulefile.specs.Judgments.{RecordReason}
use Rattle.modulefile.specs.Effects as effects
use Rattle.modulefile.specs.Effects.{effect, effects}
use Rattle.modulefile.specs.declared.records.Mode.{Mode}
use Rattle.modulefile.specs.declared.records.Mode.TheVariants.{Load, Unload, Display, Whatis}
use Rattle.modulefile.specs.declared.record_fault.RecordFault.{RecordFault}
use Rattle.modulefile.specs.Results.{◌>>=◌}
use Rattle.modulefile.specs.RecordViews.{mode_view, record_view, fault_reason}
use Rattle.modulefile.specs.Answers.{records_in, record_outcome, or_before}
use Rattle.modulefile_run.specs.declared.accepted.AcceptedCommand.{AcceptedCommand}
use Rattle.modulefile_run.specs.declared.accepted.RememberedWords.{RememberedWords}
use Rattle.modulefile_run.specs.declared.accepted.RememberedWords.TheVariants as code

-- the mode, the module's name, the environment before the file, and the words of the commands that were accepted
pub record JournalState : Type 0 where
  pub mode : Mode
  pub module_name : Text
  pub before : Environment
  pub words : List (List Text)

-- modes are coded by number, and the whole as a tuple
abbrev pub mode_number : Mode → ℕ
mode_number Load = 0
mode_number Unload = 1
mode_number Display = 2
mode_number Whatis = 3

abbrev pub numbered_mode : ℕ → Mode
numbered_mode n = if n == 0 then Load else if n == 1 then Unload else if n == 2 then Display else Whatis

-- what was done, by its parts
abbrev pub journal_state : Mode → Text → Environment → List (List Text) → JournalState
journal_state mode module_name before words = record
    { mode = mode; module_name = module_name; before = before; words = words }

-- coding a mode by its number and back gives the same
abbrev pub mode_round_trip : (m : Mode) (module_name : Text) (before : Environment) (words : List (List Text))
    → journal_state (numbered_mode (mode_number m)) module_name before words
    ≡ journal_state m module_name before words
mode_round_trip Load module_name before words = refl
mode_round_trip Unload module_name before words = refl
mode_round_trip Display module_name before words = refl
mode_round_trip Whatis module_name before words = refl

-- the codings of texts and of the whole
abbrev pub text_code : Coded Text
text_code = coded_list coded_ℕ

abbrev pub journal_code : Coded JournalState
journal_code =
    code_by (ℕ × (Text × (Environment × List (List Text))))
    (coded× coded_ℕ (coded× text_code (coded× environment_code (coded_list (coded_list text_code)))))
    (λ s. (mode_number s.mode, (s.module_name, (s.before, s.words))))
    (λ p. record { mode = numbered_mode p.0; module_name = p.1.0; before = p.1.1.0; words = p.1.1.1 })
    (λ s. mode_round_trip s.mode s.module_name s.before s.words)

-- the environment that the file finds
abbrev pub environment_so_far : JournalState → Environment
environment_so_far s = or_before s.before (records_in s.words >>=
    (λ rs. record_outcome (effects (mode_view s.mode) s.module_name rs s.before)))

-- the words that are remembered
abbrev pub words_in : RememberedWords → List Text
words_in code.Empty = []
words_in (code.WithLast' shape before last) = words_in before ++ string_bytes last.value ∷ []

-- the words and the records of entries
abbrev pub words_of : List AcceptedCommand → List (List Text)
words_of entries = map (λ entry. words_in entry.words) entries

abbrev pub records_of : List AcceptedCommand → List records.Record
records_of entries = map (λ entry. record_view entry.recorded) entries

-- The records of the entries are those of their words, and the environment is their effects on the one before.
abbrev pub IsJournal : effects.Mode → Text → Environment → Environment → List AcceptedCommand → Type 0
IsJournal mode module_name before now entries =
    (records_in (words_of entries) ≡ Ok (records_of entries))
    × (effects mode module_name (records_of entries) before ≡ Ok now)

-- the same with one command more
abbrev pub with_command : JournalState → List Text → JournalState
with_command s words = record {
  mode = s.mode;
  module_name = s.module_name;
  before = s.before;
  words = s.words
      ++ words ∷ [];
}

-- the effect of a record on the environment that the file finds
abbrev pub effect_on : JournalState → records.Record → Result Environment RecordReason
effect_on s r = effect (mode_view s.mode) s.module_name r (environment_so_far s)

-- A command is added where its record has its effect, and else nothing changes.
abbrev pub AddsCommand : Result (Unit {0}) RecordFault → List Text → records.Record → JournalState → JournalState
    → Type 0
AddsCommand (Ok u) words r old new = (new ≡ with_command old words) × ((e : Environment) × (effect_on old r ≡ Ok e))
AddsCommand (Err fault) words r old new = (new ≡ old) × IfSome (fault_reason fault)
    (λ reason. effect_on old r ≡ Err reason)

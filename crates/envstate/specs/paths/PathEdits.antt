-- For the contracts of private functions: the results of the parts of an edit of a path variable.
use Rattle.std.specs.Prelude.{◌≡◌, ℕ, true, false, string_bytes, Result, Ok, Err, IfSome}
use Rattle.std.specs.Option.{option_map}
use Rattle.envvars.specs.Texts.{Text}
use Rattle.envvars.specs.Reasons.{reason_of, counter_full}
use Rattle.envvars.specs.declared.fault.EnvFault.{EnvFault}
use Rattle.envstate.specs.paths.Paths.{PathState}
use Rattle.envstate.specs.paths.PathTexts.{elements_text, counters_as_text}
use Rattle.envstate.specs.paths.PathVariables.{counters_fit}
use Rattle.envstate.specs.declared.paths.path.PathTexts.{PathTexts}

-- the texts of the variable, with this delimiter, and of its counters are those that the state is written as
pub record AreTexts (texts : PathTexts) (delim : ℕ) (s : PathState) : Type 0 where
  pub elements : option_map string_bytes texts.elements ≡ elements_text delim s.elements
  pub counters : option_map string_bytes texts.counters ≡ counters_as_text s

-- the error is want of memory, or that a counter of the state is past the largest
abbrev pub IsFull : EnvFault → Text → PathState → Type 0
IsFull e name s = IfSome (reason_of e) (λ r. (r ≡ counter_full name) × (counters_fit s ≡ false))

-- the texts are those of the state, and its counters fit
abbrev pub IsWritten : PathTexts → ℕ → PathState → Type 0
IsWritten texts delim s = (counters_fit s ≡ true) × AreTexts texts delim s

-- the result is the state's texts where its counters fit, else the error that one is full
abbrev pub IsWrittenOrFull : Result PathTexts EnvFault → Text → ℕ → PathState → Type 0
IsWrittenOrFull (Ok texts) name delim s = IsWritten texts delim s
IsWrittenOrFull (Err e) name delim s = IsFull e name s

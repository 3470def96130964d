-- What the rules are made of: how a script completes, the jobs, and the steps that every rule takes. Own.
use Rattle.std.specs.Prelude.{ℕ, ◌-◌, List, [], ◌∷◌, if◌then◌else◌, nat_eq, nat_lt, length, Ok, Err}
use Rattle.tcltext.specs.chars.Runs.{Text}
use Rattle.tcltext.specs.script.Tree.{Commands}
use Rattle.tclvalue.specs.operators.Faults as value
use Rattle.tclvalue.specs.operators.Faults.{Answer, text, error, value_too_long, number_too_large, fraction, unsupported}
use Rattle.tclrules.specs.Derivation.{Halt, BadText, TooDeep, ValueTooLong, NumberTooLarge, FractionOperand, LeftOut}
use Rattle.tclrules.specs.Derivation.{Ended, Halted, OpenScript, Plan, Ends, Moves}
use Rattle.tclrules.specs.Variables.{State}

-- how a script completes that is not halted, by Tcl's codes: ok, error, return, break, continue (return(n))
pub data Completion : Type 0 where
  Normal : Text → State → Completion
  Raised : Text → State → Completion
  Returned : Text → State → Completion
  Broken : State → Completion
  Continued : State → Completion

-- the variables of a list of foreach, with the items that remain
abbrev pub Items : Type 0
Items = List Text × List Text

-- what is run. The number counts the scripts that may still be nested
pub data Job : Type 0 where
  -- the text of a file, or of any other script
  Script : (remaining : ℕ) → Text → State → Job
  -- the script of a command substitution, which was parsed with the text around it
  Bracket : (remaining : ℕ) → Commands → State → Job
  -- the remaining turns of a loop
  While : (remaining : ℕ) → (condition body : Text) → State → Job
  For : (remaining : ℕ) → (condition next body : Text) → State → Job
  Foreach : (remaining : ℕ) → List Items → (body : Text) → State → Job

-- a plan of the rules
abbrev pub Step : Type 0
Step = Plan Job Completion

-- the continuation: what goes on with a text and the state
abbrev pub Next : Type 0
Next = Text → State → Step

-- how many bytes a value may have, and how many scripts may still be nested
pub record Bounds : Type 0 where
  pub bytes : ℕ
  pub remaining : ℕ

abbrev pub ended : Completion → Step
ended e = Ends (Ended e)

abbrev pub halt : Halt → Step
halt h = Ends (Halted h)

abbrev pub raise : Text → State → Step
raise message s = ended (Raised message s)

-- goes on after a script with its result; any other completion is that of the script around it
abbrev pub on_normal : Next → Completion → Step
on_normal k (Normal t s) = k t s
on_normal k (Raised m s) = ended (Raised m s)
on_normal k (Returned t s) = ended (Returned t s)
on_normal k (Broken s) = ended (Broken s)
on_normal k (Continued s) = ended (Continued s)

-- the plan of a fault of values: an error can be caught, all else halts
abbrev pub fault : value.ValueReason → State → Step
fault (text f) s = halt (BadText f)
fault (error m) s = raise m s
fault value_too_long s = halt ValueTooLong
fault number_too_large s = halt NumberTooLarge
fault fraction s = halt FractionOperand
fault (unsupported name) s = halt (LeftOut name)

-- goes on with the value of an answer, or with the plan of its fault
abbrev pub given : {A : Type 0} → Answer A → State → (A → Step) → Step
given (Ok x) s k = k x
given (Err f) s k = fault f s

-- goes on where a text is within the limit on values
abbrev pub sized : ℕ → Text → Step → Step
sized most t p = if nat_lt most (length t) then halt ValueTooLong else p

-- goes on where one more script may be nested
abbrev pub begin : ℕ → Step → Step
begin remaining p = if nat_eq remaining 0 then halt TooDeep else p

-- the bounds inside of a script
abbrev pub inside : ℕ → ℕ → Bounds
inside bytes remaining = record { bytes = bytes; remaining = remaining - 1 }

-- Scripts under evaluation, the innermost first

-- with one more, which begins inside of the others
abbrev pub with_script : Bounds → Text → List OpenScript → List OpenScript
with_script b t scripts = record { remaining = b.remaining; text = t; offset = 0 } ∷ scripts

-- with this offset of the current command of the innermost
abbrev pub with_offset : ℕ → List OpenScript → List OpenScript
with_offset offset [] = []
with_offset offset (s ∷ scripts) = record { remaining = s.remaining; text = s.text; offset = offset } ∷ scripts

-- without the innermost
abbrev pub without_innermost : List OpenScript → List OpenScript
without_innermost [] = []
without_innermost (s ∷ scripts) = scripts

-- without those inside of which fewer than so many scripts may still be nested
abbrev pub around : ℕ → List OpenScript → List OpenScript
around remaining [] = []
around remaining (s ∷ scripts) = if nat_lt s.remaining remaining then around remaining scripts else s ∷ scripts

-- goes on where the scripts inside of the current one have been left
abbrev pub left : Bounds → Step → Step
left b p = Moves (around b.remaining) p

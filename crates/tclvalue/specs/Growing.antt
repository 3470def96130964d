-- Texts that are made within a limit on their bytes. Own.
use Rattle.std.specs.Prelude.{◌≡◌, ℕ, ◌<◌, ◌≤◌, ◌++◌, length, string_bytes, String, Result, Ok, Err, IfSome}
use Rattle.std.specs.declared.alloc.Global.{Global}
use Rattle.tcltext.specs.chars.Runs.{Text}
use Rattle.tclvalue.specs.operators.Faults.{Answer, ◌>>=◌, GivesText, reason_of, value_too_long}
use Rattle.tclvalue.specs.declared.operators.fault.ValueFault.{ValueFault}
use Rattle.tclvalue.specs.Limits.{limited}
use Rattle.tclvalue.specs.declared.bounded.BoundedText.{BoundedText}

-- the fault of a text that would have been made: it is longer than the limit, or memory ran out
abbrev pub Exceeds : ValueFault → ℕ → Text → Type 0
Exceeds e limit made = IfSome (reason_of e) (λ r. (r ≡ value_too_long) × (limit < length made))

-- a text within its limit stays so
abbrev pub StaysWithin : BoundedText → BoundedText → Type 0
StaysWithin old new = length (string_bytes old.text) ≤ old.limit → length (string_bytes new.text) ≤ old.limit

-- a text is appended, within the limit where the text before was; or it would exceed the limit
abbrev pub Appends : Result (Unit {0}) ValueFault → BoundedText → BoundedText → Text → Type 0
Appends (Ok u) old new piece =
    (string_bytes new.text ≡ string_bytes old.text ++ piece) × (new.limit ≡ old.limit) × StaysWithin old new
Appends (Err e) old new piece = Exceeds e old.limit (string_bytes old.text ++ piece)

-- a call gave this answer, or the fault of one longer than the limit, unless memory ran out
abbrev pub GivesWithin : ℕ → Result (String Global) ValueFault → Answer Text → Type 0
GivesWithin limit result answer = GivesText result (answer >>= limited limit)

-- Readers (own): what a reader finds at the beginning of a text, with the rest, or the fault that stops it. A fault has
-- the number of bytes that remain from its mark on.
use Rattle.std.specs.Prelude.{◌≡◌, ℕ, zero, suc, ◌-◌, List, [], ◌∷◌, Bool, true, false, Option, Some, None, IfSome}
use Rattle.std.specs.Prelude.{Result, Ok, Err}
use Rattle.tcltext.specs.chars.Runs.{Text}
use Rattle.tcltext.specs.declared.chars.fault.Fault.{Fault}
use Rattle.tcltext.specs.declared.chars.fault.Fault.TheVariants as marks
use Rattle.tcltext.specs.declared.chars.fault.ReadError.{ReadError}
use Rattle.tcltext.specs.declared.chars.fault.ReadError.TheVariants as errors
use Rattle.tcltext.specs.declared.chars.fault.TextFault.{TextFault}
use Rattle.tcltext.specs.declared.chars.fault.TextFault.TheVariants as faults

-- one reader after another: the first fault ends them
infixl 10 ◌>>=◌
abbrev pub ◌>>=◌ : {A B : Type 0} → Result A Fault → (A → Result B Fault) → Result B Fault
(Ok x) >>= f = f x
(Err e) >>= f = Err e

-- the fault that stopped a reader; want of memory is none
abbrev pub stopped_by : ReadError → Option Fault
stopped_by errors.Memory = None
stopped_by (errors.Fault f) = Some f

-- the reading has the fault that stopped the reader, unless memory ran out
abbrev pub Fails : {Y : Type 0} → ReadError → Result Y Fault → Type 0
Fails e read = IfSome (stopped_by e) (λ f. read ≡ Err f)

-- a value and the rest of the text, or a fault
abbrev pub Read : Type 0 → Type 0
Read A = Result (A × Text) Fault

-- the same reading, with its value seen by f
abbrev pub read_map : {A B : Type 0} → (A → B) → Read A → Read B
read_map f found = found >>= (λ x. Ok (f x.0, x.1))

-- One turn of reading items: the end, or one item and then more.
abbrev pub items_step : {X : Type 0} → (Text → Read X) → (Text → Read (List X)) → Text → Bool → Read (List X)
items_step one more bs true = Ok ([], bs)
items_step one more bs false = do
  x ← one bs
  read_map (λ xs. x.0 ∷ xs) (more x.1)

-- Items: skip gives the text without what separates them, and ends says that no item follows. The number bounds the
-- turns: one more than the length is enough.
abbrev pub items_at : {X : Type 0} → (Text → Text) → (Text → Bool) → (Text → Read X) → ℕ → Text → Read (List X)
items_at skip ends one zero bs = Err marks.TooDeep
items_at skip ends one (suc n) bs = items_step one (items_at skip ends one n) (skip bs) (ends (skip bs))

-- how many bytes remain from the mark on
abbrev pub remaining_of : Fault → ℕ
remaining_of (marks.OpenBrace remaining) = remaining
remaining_of (marks.OpenQuote remaining) = remaining
remaining_of (marks.OpenBracket remaining) = remaining
remaining_of (marks.JoinedToClose remaining) = remaining
remaining_of marks.TooDeep = 0
remaining_of (marks.BadCharacter remaining) = remaining
remaining_of (marks.BadExpression remaining) = remaining

-- the fault of a text of that length, with the offset of its mark
abbrev pub with_offset : ℕ → Fault → TextFault
with_offset len (marks.OpenBrace remaining) = faults.OpenBrace (len - remaining)
with_offset len (marks.OpenQuote remaining) = faults.OpenQuote (len - remaining)
with_offset len (marks.OpenBracket remaining) = faults.OpenBracket (len - remaining)
with_offset len (marks.JoinedToClose remaining) = faults.JoinedToClose (len - remaining)
with_offset len marks.TooDeep = faults.TooDeep
with_offset len (marks.BadCharacter remaining) = faults.BadCharacter (len - remaining)
with_offset len (marks.BadExpression remaining) = faults.BadExpression (len - remaining)

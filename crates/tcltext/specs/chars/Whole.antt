-- What a parser answers of a whole text (own): within the limit of length what is read of it, or its first fault with
-- the offset.
use Rattle.std.specs.Prelude.{◌≡◌, ◌≤◌, ◌<◌, ◌+◌, ℕ, length, nat_lt, if◌then◌else◌, Result, Ok, Err}
use Rattle.tcltext.specs.chars.Runs.{Text}
use Rattle.tcltext.specs.chars.Faults.{max_bytes}
use Rattle.tcltext.specs.chars.Reading.{with_offset}
use Rattle.tcltext.specs.declared.chars.fault.Fault.{Fault}
use Rattle.tcltext.specs.declared.chars.fault.Fault.TheVariants.{OpenBrace, OpenQuote, OpenBracket, JoinedToClose, TooDeep}
use Rattle.tcltext.specs.declared.chars.fault.Fault.TheVariants.{BadCharacter, BadExpression}
use Rattle.tcltext.specs.declared.chars.fault.TextFault.{TextFault}
use Rattle.tcltext.specs.declared.chars.fault.TextFault.TheVariants as faults

-- In these definitions `Is bs f` means that f is the first fault of the text bs, with the number of bytes that remain
-- from its mark on.

-- the first fault of a text within the limit, whose mark has that offset
abbrev pub IsFaultAt : (Text → Fault → Type 0) → Text → ℕ → (ℕ → Fault) → Type 0
IsFaultAt Is bs at mark =
    (length bs ≤ max_bytes) × (remaining : ℕ) × (at + remaining ≡ length bs) × Is bs (mark remaining)

-- What is wrong with a text: one past the limit is too long, whatever else is wrong; else it is its first fault. Want
-- of memory says nothing of the text.
abbrev pub IsFaultOf : (Text → Fault → Type 0) → Text → TextFault → Type 0
IsFaultOf Is bs faults.OutOfMemory = Unit {0}
IsFaultOf Is bs (faults.OpenBrace at) = IsFaultAt Is bs at (λ remaining. OpenBrace remaining)
IsFaultOf Is bs (faults.OpenQuote at) = IsFaultAt Is bs at (λ remaining. OpenQuote remaining)
IsFaultOf Is bs (faults.OpenBracket at) = IsFaultAt Is bs at (λ remaining. OpenBracket remaining)
IsFaultOf Is bs (faults.JoinedToClose at) = IsFaultAt Is bs at (λ remaining. JoinedToClose remaining)
IsFaultOf Is bs faults.TooDeep = (length bs ≤ max_bytes) × Is bs TooDeep
IsFaultOf Is bs (faults.BadCharacter at) = IsFaultAt Is bs at (λ remaining. BadCharacter remaining)
IsFaultOf Is bs (faults.BadExpression at) = IsFaultAt Is bs at (λ remaining. BadExpression remaining)
IsFaultOf Is bs faults.TooLong = max_bytes < length bs

-- what was read of a text, or the fault with its offset
abbrev pub reading_with_offset : {A : Type 0} → Text → Result A Fault → Result A TextFault
reading_with_offset bs (Ok x) = Ok x
reading_with_offset bs (Err fault) = Err (with_offset (length bs) fault)

-- what is read of a text within the limit
abbrev pub whole_of : {A : Type 0} → (Text → Result A Fault) → Text → Result A TextFault
whole_of read bs = if nat_lt max_bytes (length bs) then Err faults.TooLong else reading_with_offset bs (read bs)

-- a call's fault is that of the reading, unless memory ran out
abbrev pub FailsWith : {Y : Type 0} → TextFault → Result Y TextFault → Type 0
FailsWith faults.OutOfMemory read = Unit {0}
FailsWith (faults.OpenBrace at) read = read ≡ Err (faults.OpenBrace at)
FailsWith (faults.OpenQuote at) read = read ≡ Err (faults.OpenQuote at)
FailsWith (faults.OpenBracket at) read = read ≡ Err (faults.OpenBracket at)
FailsWith (faults.JoinedToClose at) read = read ≡ Err (faults.JoinedToClose at)
FailsWith faults.TooDeep read = read ≡ Err faults.TooDeep
FailsWith (faults.BadCharacter at) read = read ≡ Err (faults.BadCharacter at)
FailsWith (faults.BadExpression at) read = read ≡ Err (faults.BadExpression at)
FailsWith faults.TooLong read = read ≡ Err faults.TooLong

-- what a call answered, seen by view, is the reading, unless memory ran out
abbrev pub Reads : {X Y : Type 0} → (X → Y) → Result X TextFault → Result Y TextFault → Type 0
Reads view (Ok x) read = read ≡ Ok (view x)
Reads view (Err fault) read = FailsWith fault read

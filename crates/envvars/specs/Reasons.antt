-- The errors of edits, as contracts see them: the reason and the variable; want of memory is left open (own).
use Rattle.std.specs.Prelude.{◌≡◌, [], string_bytes, Option, Some, None, IfSome, Result, Ok, Err}
use Rattle.message.specs.Refusals.{NumberedText, about}
use Rattle.message.specs.declared.refusals.RefusalKind.TheVariants as kinds
use Rattle.envvars.specs.Texts.{Text}
use Rattle.envvars.specs.Environment.{Environment}
use Rattle.envvars.specs.declared.fault.EnvFault.{EnvFault}
use Rattle.envvars.specs.declared.fault.EnvFault.TheVariants.{OutOfMemory, BadVariable, Protected, CounterFull}
use Rattle.envvars.specs.declared.fault.EnvFault.TheVariants.{Inconsistent, BadStack, BadValue}

-- why an edit is refused, with the variable's name
pub data EnvReason : Type 0 where
  bad_variable : (name : Text) → EnvReason
  protected : (name : Text) → EnvReason
  counter_full : (name : Text) → EnvReason
  inconsistent : EnvReason
  bad_stack : (name : Text) → EnvReason
  bad_value : (name : Text) → EnvReason

-- the reason of an error of the code; want of memory is no reason in the edit
abbrev pub reason_of : EnvFault → Option EnvReason
reason_of OutOfMemory = None
reason_of (BadVariable name) = Some (bad_variable (string_bytes name))
reason_of (Protected name) = Some (protected (string_bytes name))
reason_of (CounterFull name) = Some (counter_full (string_bytes name))
reason_of Inconsistent = Some inconsistent
reason_of (BadStack name) = Some (bad_stack (string_bytes name))
reason_of (BadValue name) = Some (bad_value (string_bytes name))

-- The error has this reason, or is want of memory.
abbrev pub HasReason : EnvReason → EnvFault → Type 0
HasReason reason e = IfSome (reason_of e) (λ r. r ≡ reason)

-- the refusal that an error is
abbrev pub refusal_of : EnvFault → NumberedText
refusal_of OutOfMemory = about kinds.MemoryForRequest []
refusal_of (BadVariable name) = about kinds.BadVariable (string_bytes name)
refusal_of (Protected name) = about kinds.Protected (string_bytes name)
refusal_of (CounterFull name) = about kinds.CounterFull (string_bytes name)
refusal_of Inconsistent = about kinds.Inconsistent []
refusal_of (BadStack name) = about kinds.BadStack (string_bytes name)
refusal_of (BadValue name) = about kinds.BadValue (string_bytes name)

-- an error for the reason, where there is one, else the outcome
abbrev pub unless : {A : Type 0} → Option EnvReason → Result A EnvReason → Result A EnvReason
unless None outcome = outcome
unless (Some r) outcome = Err r

-- The result of an edit is the outcome, or want of memory. A refused edit leaves the environment unchanged.
abbrev pub Edits : Result (Unit {0}) EnvFault → Environment → Environment → Result Environment EnvReason → Type 0
Edits (Ok u) old new outcome = outcome ≡ Ok new
Edits (Err e) old new outcome = (new ≡ old) × IfSome (reason_of e) (λ r. outcome ≡ Err r)

-- A check succeeds only where there is no reason against it, and fails only for that reason or for want of memory.
abbrev pub Judges : Result (Unit {0}) EnvFault → Option EnvReason → Type 0
Judges (Ok u) reason = reason ≡ None
Judges (Err e) reason = IfSome (reason_of e) (λ r. reason ≡ Some r)

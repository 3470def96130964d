-- What the answers of the code to a command, a judgment and an edit mean (own).
use Rattle.std.specs.Prelude.{◌≡◌, Option, None, Some, IfSome, Result, Ok, Err}
use Rattle.envvars.specs.Environment.{Environment}
use Rattle.modulefile.specs.Judgments.{RecordReason}
use Rattle.modulefile.specs.declared.record_fault.RecordFault.{RecordFault}
use Rattle.modulefile.specs.RecordViews.{fault_reason}

-- the fault is this, or want of memory
abbrev pub HasFault : RecordReason → RecordFault → Type 0
HasFault reason fault = IfSome (fault_reason fault) (λ r. r ≡ reason)

-- A judgment is good where there is no reason against it, and else has that reason, or memory ran out.
abbrev pub IsJudged : Result (Unit {0}) RecordFault → Option RecordReason → Type 0
IsJudged (Ok u) refusal = refusal ≡ None
IsJudged (Err fault) refusal = IfSome (fault_reason fault) (λ r. refusal ≡ Some r)

-- An edit has this outcome, or memory ran out. A refused edit leaves the environment as it was.
abbrev pub IsEdited : Result (Unit {0}) RecordFault → Environment → Environment → Result Environment RecordReason
    → Type 0
IsEdited (Ok u) old new outcome = outcome ≡ Ok new
IsEdited (Err fault) old new outcome = (new ≡ old) × IfSome (fault_reason fault) (λ r. outcome ≡ Err r)

-- What follows where a fault has a reason.
use Rattle.std.proofs.Common.{◌≡◌, true, false, refl, Result, Err}
use Rattle.std.proofs.lemmas.Bool.{false≢true}
use Rattle.std.specs.Prelude.{IfSome}
use Rattle.filetree.specs.Causes.{Applies}
use Rattle.module_reports.specs.listings.Faults.{ListingReason, cause_of, has_reason, is_failure, reason_of}
use Rattle.module_reports.specs.declared.listings.fault.ListingFault.{ListingFault}
use Rattle.module_reports.specs.declared.listings.fault.ListingFault.TheVariants as faults

-- it isn't the device's
pub no_failure : (fault : ListingFault) → has_reason fault ≡ true → is_failure fault ≡ false
no_failure faults.OutOfMemory h = absurd (false≢true h)
no_failure faults.Inconsistent h = refl
no_failure faults.Device h = absurd (false≢true h)
no_failure faults.BadArguments h = refl
no_failure (faults.NoOption subcommand word) h = refl

-- its cause is that reason
pub applies_reason : {Y : Type 0} (fault : ListingFault) (outcome : Result Y ListingReason) (failed : Type 0) → has_reason fault ≡ true → IfSome (reason_of fault) (λ reason. outcome ≡ Err reason)
    → Applies (cause_of fault) failed (λ reason. outcome ≡ Err reason)
applies_reason faults.OutOfMemory outcome failed h given = absurd (false≢true h)
applies_reason faults.Inconsistent outcome failed h given = given
applies_reason faults.Device outcome failed h given = absurd (false≢true h)
applies_reason faults.BadArguments outcome failed h given = given
applies_reason (faults.NoOption subcommand word) outcome failed h given = given

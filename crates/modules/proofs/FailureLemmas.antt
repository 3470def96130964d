-- Where a request failed.
use Rattle.std.proofs.Common.{◌≡◌, Bool, false, List, ℕ, Result, Ok, Err, refl, sym, subst}
use Rattle.filetree.specs.Agreement.{FailsAt, FailsIf, is_device}
use Rattle.filetree.specs.Causes.{Cause, Applies, memory, device, because}
use Rattle.search.specs.declared.find_fault.FindFault.{FindFault}
use Rattle.search.specs.declared.find_fault.FindFault.TheVariants as finds
use Rattle.filetree.specs.declared.tree.TreeFault.{TreeFault}
use Rattle.filetree.specs.declared.tree.TreeFault.TheVariants as trees
use Rattle.search.specs.Answers as search
use Rattle.requests.specs.Reasons.{RequestReason}
use Rattle.modules.specs.declared.refusal.Refusal.{Refusal}
use Rattle.modules.specs.declared.refusal.Refusal.TheVariants as refusals
use Rattle.modules.specs.Answers.{GivesOrRefuses, cause_of, is_failure, is_of_device, refused_read}

no_device : (c : Cause RequestReason) (P : RequestReason → Type 0) → Applies c ⊥ P → is_of_device c ≡ false
no_device memory P h = refl
no_device device P h = absurd h
no_device (because r) P h = refl

-- what a call without a tree is refused by is no failure of the device
pub unfailed : (e : Refusal) (P : RequestReason → Type 0) (before now : List ℕ → Bool) (W : List ℕ → Type 0) → Applies (cause_of e) ⊥ P → now ≡ before
    → FailsIf (is_failure e) before now W
unfailed e P before now W h same = subst (λ t. FailsIf t before now W) (sym (no_device (cause_of e) P h)) same

pub gives_unfailed : {X Y : Type 0} (view : X → Y) (r : Result X Refusal) (Comes : Result Y RequestReason → Type 0) (before now : List ℕ → Bool) (W : List ℕ → Type 0)
    → GivesOrRefuses view r Comes → now ≡ before → FailsAt is_failure before now r W
gives_unfailed view (Ok x) Comes before now W h same = same
gives_unfailed view (Err e) Comes before now W h same = unfailed e (λ r. Comes (Err r)) before now W h same

-- a failure of the search, or of a read, is one of the request
pub found_failure : (fault : FindFault) → search.is_failure fault ≡ is_failure (refusals.Find fault)
found_failure finds.OutOfMemory = refl
found_failure finds.Device = refl
found_failure (finds.NotFound name) = refl
found_failure (finds.BadName name) = refl
found_failure (finds.BadDefaultFile path) = refl
found_failure (finds.NotUtf8 path) = refl

pub read_failure : (fault : TreeFault) → is_device fault ≡ is_failure (refused_read fault)
read_failure trees.OutOfMemory = refl
read_failure trees.Device = refl

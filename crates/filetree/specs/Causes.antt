-- What a call over a tree answers: its value in each pair of maps that agrees with the tree, or the cause of its fault.
use Rattle.std.specs.Prelude.{Result, Ok, Err}
use Rattle.filetree.specs.Agreement.{Files, Listings, InEachPair}

-- why a call gives no value: an allocation failed, the device failed, or there is a reason in the files themselves
pub data Cause (R : Type 0) : Type 0 where
  memory : Cause R
  device : Cause R
  because : (reason : R) → Cause R

-- A cause holds: an allocation can always fail, the device has failed, or the reason is one of the call.
abbrev pub Applies : {R : Type 0} → Cause R → Type 0 → (R → Type 0) → Type 0
Applies memory failed Is = Unit {0}
Applies device failed Is = failed
Applies (because r) failed Is = Is r

-- The answer of a call over a tree, whose faults have these causes. A value, seen by view, is an outcome in each pair
-- of maps that agrees with the tree after the call. A fault has its cause: where that is a reason, it is an outcome in
-- each such pair.
abbrev pub AnswersOverTree : {X Y E R : Type 0} → (E → Cause R) → (Files → Listings → Type 0) → Type 0 → (X → Y)
    → Result X E
    → (Files → Listings → Result Y R → Type 0) → Type 0
AnswersOverTree cause agrees failed view (Ok x) Outcomes = InEachPair agrees
    (λ files listings. Outcomes files listings (Ok (view x)))
AnswersOverTree cause agrees failed view (Err e) Outcomes =
    Applies (cause e) failed (λ r. InEachPair agrees (λ files listings. Outcomes files listings (Err r)))

-- The limit on the bytes of a value.
use Rattle.std.proofs.Common.{◌≡◌, ℕ, ◌<◌, ◌≤◌, Bool, true, false, cond, length, Ok, Err, IfSome, refl, arith}
use Rattle.std.proofs.lemmas.Bool.{le-leb, lt-leb}
use Rattle.std.proofs.lemmas.Bool.Decides.{nat_tests}
use Rattle.std.specs.Prelude.{nat_le}
use Rattle.tcltext.specs.chars.Runs.{Text}
use Rattle.tclvalue.specs.operators.Faults.{Answer, ValueReason, reason_of, value_too_long, ◌>>=◌}
use Rattle.tclvalue.specs.declared.operators.fault.ValueFault.{ValueFault}
use Rattle.tclvalue.specs.declared.operators.fault.ValueFault.TheVariants as faults
use Rattle.tclvalue.specs.Limits.{limited}
use Rattle.tclrules.specs.Variables.{State}
use Rattle.tclrules.specs.Plans.{Job, Step, sized}
use Rattle.tclrules.specs.Simulates.{Point, Simulates}
use Rattle.tclrules.proofs.Leading.{starve}
use Rattle.tclforms.specs.substitution.Stops.{stopped, stop_of}
use Rattle.tclforms.proofs.substitution.Leading.{sized_stops}

pub within : (limit : ℕ) (t : Text) → length t ≤ limit → limited limit t ≡ Ok t
within limit t h = rw (le-leb (length t) limit h) refl

pub beyond : (limit : ℕ) (t : Text) → limit < length t → limited limit t ≡ Err value_too_long
beyond limit t h = rw (lt-leb (length t) limit h) refl

pub limited_is : (limit : ℕ) (t u : Text) → limited limit t ≡ Ok u → t ≡ u
limited_is limit t u h = go (nat_le (length t) limit) h
  where
    go : (b : Bool) → cond b (Ok t) (Err value_too_long) ≡ Ok u → t ≡ u
    go true h = cc
    go false h = cc

not_within : (a b : ℕ) → nat_le a b ≡ false → b < a
not_within a b h = grind (arith, nat_tests)

too_long : (limit : ℕ) (t : Text) (f : ValueReason) → limited limit t ≡ Err f → (f ≡ value_too_long) × (limit < length t)
too_long limit t f h = go (nat_le (length t) limit) refl h
  where
    go : (b : Bool) → nat_le (length t) limit ≡ b → cond b (Ok t) (Err value_too_long) ≡ Err f → (f ≡ value_too_long) × (limit < length t)
    go true e h = cc
    go false e h = (cc, not_within (length t) limit e)

-- a text that passes the limit, or want of memory
pub limited_stops : {most : ℕ} {r : Job → Step} {x : Point} (e : ValueFault) (limit : ℕ) (t : Text) (p : Step)
    (s : State) → IfSome (reason_of e) (λ f. limited limit t ≡ Err f)
    → Simulates most r (sized limit t p) x (stopped (stop_of e) s) x
limited_stops faults.OutOfMemory limit t p s h = starve
limited_stops (faults.Text f) limit t p s h = let e = (too_long limit t _ h).0 in cc
limited_stops (faults.TclError m) limit t p s h = let e = (too_long limit t _ h).0 in cc
limited_stops faults.ValueTooLong limit t p s h = sized_stops limit t p (too_long limit t _ h).1
limited_stops faults.NumberTooLarge limit t p s h = let e = (too_long limit t _ h).0 in cc
limited_stops faults.FractionOperand limit t p s h = let e = (too_long limit t _ h).0 in cc
limited_stops (faults.LeftOut name) limit t p s h = let e = (too_long limit t _ h).0 in cc

-- a fault of what comes first is that of the whole
pub first_stops : {A B : Type 0} (e : ValueFault) (a : Answer A) (g : A → Answer B) → IfSome (reason_of e) (λ f. a ≡ Err f) → IfSome (reason_of e) (λ f. (a >>= g) ≡ Err f)
first_stops faults.OutOfMemory a g h = tt
first_stops (faults.Text f) a g h = rw h refl
first_stops (faults.TclError m) a g h = rw h refl
first_stops faults.ValueTooLong a g h = rw h refl
first_stops faults.NumberTooLarge a g h = rw h refl
first_stops faults.FractionOperand a g h = rw h refl
first_stops (faults.LeftOut name) a g h = rw h refl

-- The variable that a name without colons denotes.
use Rattle.std.proofs.Common.{◌≡◌, ℕ, Bool, not, is_some, true, false, ◌==◌, ◌&&◌, ◌||◌, [], ◌∷◌, Option, None, Some}
use Rattle.std.proofs.Common.{Ok, codes, refl, arith}
use Rattle.std.proofs.lemmas.Bool.Decides.{nat_tests}
use Rattle.std.specs.Borrow.{Bor}
use Rattle.std.specs.List.{list_any}
use Rattle.std.specs.Option.{option_map}
use Rattle.tcltext.specs.chars.Runs.{Text, begins}
use Rattle.tclvalue.specs.Indexes.{after_prefix}
use Rattle.tclrules.specs.Variables.{State, Scalar, has_colons, sees, name_and_index, location_named}

colonless : (s : Text) → list_any (λ b. b == 58) s ≡ false → has_colons s ≡ false
colonless [] h = refl
colonless (x ∷ s) h = go (x == 58) h (colonless s)
  where
    go : (t : Bool) → (t || list_any (λ b. b == 58) s) ≡ false → (list_any (λ b. b == 58) s ≡ false → has_colons s ≡ false) → ((t && begins 58 s) || has_colons s) ≡ false
    go true h k = cc
    go false h k = k h

same_test : (x : ℕ) → (58 == x) ≡ (x == 58)
same_test x = grind (arith, nat_tests)

unled : (s : Text) → list_any (λ b. b == 58) s ≡ false → after_prefix (codes "::") s ≡ None
unled [] h = refl
unled (x ∷ s) h = go (x == 58) (same_test x) h
  where
    go : (t : Bool) → (58 == x) ≡ t → (t || list_any (λ b. b == 58) s) ≡ false → after_prefix (codes "::") (x ∷ s) ≡ None
    go true e h = cc
    go false e h = rw e refl

pub plain_location : (s : State) (name : Text) (p : Text × Option Text) → p ≡ name_and_index name → p.1 ≡ None
    → list_any (λ b. b == 58) p.0 ≡ false → location_named s name ≡ Ok (Scalar (sees s.frame p.0) p.0)
plain_location s name p e n h = rw (← e) (rw n (rw (unled p.0 h) (rw (colonless p.0 h) refl)))

-- a test for an index that finds none
pub unindexed : (o : Option (Bor Text)) (t : Bool) → is_some o ≡ not t → t ≡ true → option_map (λ i. i.now) o ≡ None
unindexed None t e h = refl
unindexed (Some i) true e h = cc
unindexed (Some i) false e h = cc

-- Two colons that follow one another in a name.
use Rattle.std.proofs.Common.{◌≡◌, ℕ, Bool, true, false, ◌==◌, ◌&&◌, ◌||◌, [], ◌∷◌, ◌++◌, refl, sym, ap, ◌∙◌, arith}
use Rattle.std.proofs.lemmas.Bool.Decides.{nat_tests}
use Rattle.std.specs.Prelude.{◌↔◌}
use Rattle.std.specs.Str.Iter.{HasSubslice}
use Rattle.tcltext.specs.chars.Runs.{Text, begins}
use Rattle.tclrules.specs.Variables.{has_colons}

is_colon : (b : ℕ) → (b == 58) ≡ true → b ≡ 58
is_colon b h = grind (arith, nat_tests)

holds_colons : (a b : Text) → has_colons (a ++ (58 ∷ 58 ∷ b)) ≡ true
holds_colons [] b = refl
holds_colons (x ∷ a) b = go (x == 58 && begins 58 (a ++ (58 ∷ 58 ∷ b))) (holds_colons a b)
  where
    go : (t : Bool) → has_colons (a ++ (58 ∷ 58 ∷ b)) ≡ true → (t || has_colons (a ++ (58 ∷ 58 ∷ b))) ≡ true
    go true h = refl
    go false h = h

later_colons : (x : ℕ) (s : Text) → HasSubslice s (58 ∷ 58 ∷ []) → HasSubslice (x ∷ s) (58 ∷ 58 ∷ [])
later_colons x s h = (x ∷ h.0, h.1, ap (λ r. x ∷ r) h.2)

first_colons : (x : ℕ) (s : Text) → (x == 58) ≡ true → begins 58 s ≡ true → HasSubslice (x ∷ s) (58 ∷ 58 ∷ [])
first_colons x [] e h = cc
first_colons x (y ∷ s) e h = ([], s, rw (is_colon x e, is_colon y h) refl)

found_colons : (s : Text) → has_colons s ≡ true → HasSubslice s (58 ∷ 58 ∷ [])
found_colons [] h = cc
found_colons (x ∷ s) h = go (found_colons s) (x == 58) refl (begins 58 s) refl h
  where
    go : (has_colons s ≡ true → HasSubslice s (58 ∷ 58 ∷ [])) → (t : Bool) → (x == 58) ≡ t → (u : Bool) → begins 58 s ≡ u → ((t && u) || has_colons s) ≡ true → HasSubslice (x ∷ s) (58 ∷ 58 ∷ [])
    go k true e true d h = first_colons x s e d
    go k true e false d h = later_colons x s (k h)
    go k false e true d h = later_colons x s (k h)
    go k false e false d h = later_colons x s (k h)

-- a search for two colons tells whether a name has them
pub colons_by : (r : Bool) (s : Text) → (r ≡ true) ↔ HasSubslice s (58 ∷ 58 ∷ []) → r ≡ has_colons s
colons_by true s h = let c = h.0 refl in sym (ap has_colons c.2 ∙ holds_colons c.0 c.1)
colons_by false s h = go (has_colons s) refl
  where
    go : (t : Bool) → has_colons s ≡ t → false ≡ t
    go true e = h.1 (found_colons s e)
    go false e = refl

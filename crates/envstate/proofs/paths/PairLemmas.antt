-- The texts of a path variable.
use Rattle.std.proofs.Common.{◌≡◌, ℕ, ◌<◌, ◌≤◌, Bool, true, false, cond, ◌&&◌, ◌≢◌, eqb, suc, List, [], ◌∷◌, refl, sym}
use Rattle.std.proofs.Common.{ap, arith, Option, Some, None, get_or}
use Rattle.std.specs.Option.{option_or}
use Rattle.std.specs.List.{onto_first}
use Rattle.std.specs.Bool.{MatchBool}
use Rattle.std.specs.Str.Pattern.{FindsChar}
use Rattle.std.proofs.lemmas.Bool.{false≢true}
use Rattle.std.proofs.lemmas.Bool.Decides.{nat_tests}
use Rattle.std.proofs.lemmas.Str.Pattern.{contains_char}
use Rattle.envvars.specs.Fields.{fields}
use Rattle.envvars.specs.Escapes.{is_special, unescaped_fields}
use Rattle.std.proofs.Math.ListN.{length}
use Rattle.envvars.specs.Texts.{Text}

pub or_assoc : {A : Type 0} (a b c : Option A) → option_or (option_or a b) c ≡ option_or a (option_or b c)
or_assoc (Some x) b c = refl
or_assoc None b c = refl

-- a text without a backslash has the same fields, escapes or not

plain_at : (a b : Bool) (k : ℕ) (c : ℕ) (fs gs hs : List Text) → b ≡ false → fs ≡ gs
    → cond a ([] ∷ fs) (cond (b && is_special k) (onto_first k hs) (onto_first c fs)) ≡ cond a ([] ∷ gs)
    (onto_first c gs)
plain_at true b k c fs gs hs e h = ap (λ (l : List Text). [] ∷ l) h
plain_at false true k c fs gs hs e h = absurd (false≢true (sym e))
plain_at false false k c fs gs hs e h = ap (onto_first c) h

last_at : (a : Bool) (c : ℕ) → cond a ([] ∷ [] ∷ []) ((c ∷ []) ∷ []) ≡ cond a ([] ∷ [] ∷ []) (onto_first c ([] ∷ []))
last_at true c = refl
last_at false c = refl

not_same : (b c : ℕ) → b ≢ c → eqb b c ≡ false
not_same b c h = grind (arith, nat_tests)

fields-plain : (t : Text) → ((i : ℕ) → i < length t → get_or t i 0 ≢ 92) → unescaped_fields t ≡ fields t
fields-plain [] h = refl
fields-plain (c ∷ []) h = last_at (eqb c 58) c
fields-plain (c ∷ k ∷ cs) h =
    plain_at (eqb c 58) (eqb c 92) k c (unescaped_fields (k ∷ cs)) (fields (k ∷ cs)) (unescaped_fields cs) (not_same c 92 (h 0 (omega arith))) (fields-plain (k ∷ cs) (λ i l. h (suc i) (omega arith)))

pub plain_fields : (t : Text) (r : Bool) → MatchBool r ((i : ℕ) × (j : ℕ) × FindsChar 92 t (Some (i, j)) × (i ≤ j) × (j ≤ length t)) (FindsChar 92 t None) → r ≡ false → unescaped_fields t ≡ fields t
plain_fields t true m h = absurd (false≢true (sym h))
plain_fields t false m h = fields-plain t (λ i l e. false≢true ((contains_char 92 t false m (omega arith)).1 i l e))

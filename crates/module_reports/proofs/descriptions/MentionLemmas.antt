-- A search for a text tells whether it stands in another.
use Rattle.std.proofs.Common.{◌≡◌, ℕ, Bool, true, false, nat_eq, [], ◌∷◌, ◌++◌, length, take, refl}
use Rattle.std.proofs.Common.{sym, ap, ◌∙◌, subst, arith, inl, inr, ◌⊎◌}
use Rattle.std.specs.Prelude.{◌↔◌}
use Rattle.std.specs.Cmp.Lexicographic.{pointwise}
use Rattle.std.specs.List.{starts_with}
use Rattle.std.specs.Str.Iter.{HasSubslice}
use Rattle.std.proofs.lemmas.Bool.{and_from, and_parts, or_cases, or_left, or_right}
use Rattle.std.proofs.lemmas.Bool.Decides.{nat_tests}
use Rattle.envvars.specs.Texts.{Text}
use Rattle.module_reports.specs.descriptions.Mentions.{stands_in}

same_byte : (b c : ℕ) → nat_eq b c ≡ true → b ≡ c
same_byte b c h = grind (arith, nat_tests)

byte_same : (b : ℕ) → nat_eq b b ≡ true
byte_same b = grind (arith, nat_tests)

-- ---- a text at the front

one_more : (b c : ℕ) (bs cs rest : Text) → c ≡ b → bs ≡ cs ++ rest → b ∷ bs ≡ c ∷ (cs ++ rest)
one_more b c bs cs rest same k = ap (λ (x : ℕ). x ∷ bs) (sym same) ∙ ap (λ (t : Text). c ∷ t) k

begun : (text within : Text) → pointwise nat_eq text (take (length text) within) ≡ true → (rest : Text) × (within ≡ text ++ rest)
begun [] within h = (within, refl)
begun (c ∷ cs) [] h = absurd (cc)
begun (c ∷ cs) (b ∷ bs) h =
    let p = and_parts (nat_eq c b) (pointwise nat_eq cs (take (length cs) bs)) h in
    let k = begun cs bs p.1 in
    (k.0, one_more b c bs cs k.0 (same_byte c b p.0) k.1)

begins : (text rest : Text) → pointwise nat_eq text (take (length text) (text ++ rest)) ≡ true
begins [] rest = refl
begins (c ∷ cs) rest = and_from (nat_eq c c) (pointwise nat_eq cs (take (length cs) (cs ++ rest))) (byte_same c) (begins cs rest)

-- ---- a text anywhere

found : (text within : Text) → stands_in text within ≡ true → HasSubslice within text
found text [] h = let k = begun text [] h in ([], k.0, k.1)
found text (b ∷ bs) h = go (found text bs) (or_cases (starts_with nat_eq (b ∷ bs) text) (stands_in text bs) h)
  where
    go : (stands_in text bs ≡ true → HasSubslice bs text) → (starts_with nat_eq (b ∷ bs) text ≡ true) ⊎ (stands_in text bs ≡ true) → HasSubslice (b ∷ bs) text
    go later (inl k) = let r = begun text (b ∷ bs) k in ([], r.0, r.1)
    go later (inr k) = let r = later k in (b ∷ r.0, r.1, ap (λ (t : Text). b ∷ t) r.2)

at_front : (text within : Text) → starts_with nat_eq within text ≡ true → stands_in text within ≡ true
at_front text [] h = h
at_front text (b ∷ bs) h = or_left (starts_with nat_eq (b ∷ bs) text) (stands_in text bs) h

stands : (text before behind : Text) → stands_in text (before ++ (text ++ behind)) ≡ true
stands text [] behind = at_front text (text ++ behind) (begins text behind)
stands text (b ∷ bs) behind =
    or_right (starts_with nat_eq (b ∷ (bs ++ (text ++ behind))) text) (stands_in text (bs ++ (text ++ behind))) (stands text bs behind)

no_other : (r : Bool) (b : Bool) → (r ≡ true → b ≡ true) → (b ≡ true → r ≡ true) → r ≡ b
no_other true b there back = sym (there refl)
no_other false true there back = back refl
no_other false false there back = refl

-- the answer of a search
pub stands_by : (r : Bool) (text within : Text) → (r ≡ true) ↔ HasSubslice within text → r ≡ stands_in text within
stands_by r text within h =
    no_other r (stands_in text within)
    (λ k. let c = h.0 k in subst (λ (t : Text). stands_in text t ≡ true) (sym c.2) (stands text c.0 c.1))
    (λ k. h.1 (found text within k))

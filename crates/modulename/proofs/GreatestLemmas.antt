-- The greatest of the texts so far, and one more.
use Rattle.std.proofs.Common.{◌≡◌, Bool, true, false, List, [], ◌∷◌, ◌++◌, Ordering, Less, Equal, Greater, is_le, refl}
use Rattle.std.proofs.Common.{sym, ap, ◌∙◌, subst, ⊎_elim}
use Rattle.std.specs.Prelude.{bytes_eq, ◌||◌, if◌then◌else◌}
use Rattle.std.specs.List.{list_any}
use Rattle.std.specs.Ordering.{is_lt, ordering_reverse}
use Rattle.std.proofs.lemmas.Bool.{or_cases, or_left, or_right}
use Rattle.std.proofs.lemmas.Cmp.{tied_itself}
use Rattle.std.proofs.lemmas.Slice.Eq.{bytes_eq-Decides}
use Rattle.std.proofs.lemmas.List.Folds.{list_any-append}
use Rattle.modulename.specs.ModuleName.{Text}
use Rattle.modulename.specs.Versions.{version_order, IsGreatest, IsIn, greater}
use Rattle.modulename.proofs.OrderLemmas.{total, equal}

same : (x y : Text) → bytes_eq x y ≡ true → x ≡ y
same x y = (bytes_eq-Decides x y).0

itself : (x : Text) → bytes_eq x x ≡ true
itself x = (bytes_eq-Decides x x).1 refl

-- what is among texts with one more at the end
in_more : (v w : Text) (vs : List Text) → list_any (bytes_eq w) (vs ++ v ∷ []) ≡ (list_any (bytes_eq w) vs || list_any (bytes_eq w) (v ∷ []))
in_more v w vs = list_any-append (bytes_eq w) vs (v ∷ [])

before : (o : Ordering) → is_lt o ≡ true → o ≡ Less
before Less h = refl
before Equal h = absurd (cc)
before Greater h = absurd (cc)

no_later : (w b v : Text) → is_le (version_order w b) ≡ true → version_order b v ≡ Less → is_le (version_order w v) ≡ true
no_later w b v h k = go (version_order w b) refl
  where
    go : (o : Ordering) → version_order w b ≡ o → is_le (version_order w v) ≡ true
    go Less e = ap is_le (total.trans w b v e k)
    go Equal e = ap is_le (ap (λ x. version_order x v) (equal w b e) ∙ k)
    go Greater e = absurd (let q : is_le Greater ≡ true = sym (ap is_le e) ∙ h in cc)

not_before : (o : Ordering) → is_lt o ≡ false → is_le (ordering_reverse o) ≡ true
not_before Less h = absurd (cc)
not_before Equal h = refl
not_before Greater h = refl

le_itself : (v : Text) → is_le (version_order v v) ≡ true
le_itself v = ap is_le (tied_itself total v)

step : (t : Bool) (vs : List Text) (b v : Text) → is_lt (version_order b v) ≡ t → IsGreatest (IsIn vs) b → IsGreatest (IsIn (vs ++ v ∷ [])) (if t then v else b)
step true vs b v e g = record {
  member = in_more v v vs ∙ or_right (list_any (bytes_eq v) vs) (list_any (bytes_eq v) (v ∷ [])) (or_left (bytes_eq v v) false (itself v));
  last = λ w h.
      ⊎_elim (λ i. no_later w b v (g.last w i) (before (version_order b v) e))
      (λ i. ⊎_elim (λ q. subst (λ x. is_le (version_order x v) ≡ true) (sym (same w v q)) (le_itself v)) (λ q. absurd (cc)) (or_cases (bytes_eq w v) false i))
      (or_cases (list_any (bytes_eq w) vs) (list_any (bytes_eq w) (v ∷ [])) (sym (in_more v w vs) ∙ h));
}
step false vs b v e g = record {
  member = in_more v b vs ∙ or_left (list_any (bytes_eq b) vs) (list_any (bytes_eq b) (v ∷ [])) g.member;
  last = λ w h.
      ⊎_elim (λ i. g.last w i)
      (λ i. ⊎_elim (λ q. subst (λ x. is_le (version_order x b) ≡ true) (sym (same w v q))
      (ap is_le (total.antisymm v b) ∙ not_before (version_order b v) e)) (λ q. absurd (cc))
      (or_cases (bytes_eq w v) false i))
      (or_cases (list_any (bytes_eq w) vs) (list_any (bytes_eq w) (v ∷ [])) (sym (in_more v w vs) ∙ h));
}

pub greatest_of_more : (vs : List Text) (b v : Text) → IsGreatest (IsIn vs) b → IsGreatest (IsIn (vs ++ v ∷ [])) (greater b v)
greatest_of_more vs b v g = step (is_lt (version_order b v)) vs b v refl g

pub greatest_of_one : (v : Text) → IsGreatest (IsIn (v ∷ [])) v
greatest_of_one v = record {
  member = or_left (bytes_eq v v) false (itself v);
  last = λ w h. ⊎_elim (λ q. subst (λ x. is_le (version_order x v) ≡ true) (sym (same w v q)) (le_itself v)) (λ q. absurd (cc)) (or_cases (bytes_eq w v) false h);
}

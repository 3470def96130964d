-- Paths that stand each once are no more than those among which they are.
use Rattle.std.proofs.Common.{◌≡◌, ◌≤◌, Bool, true, false, List, [], ◌∷◌, length, refl, ap, sym, ◌∙◌, bytes_eq}
use Rattle.std.proofs.lemmas.Bool.{false≢true}
use Rattle.std.proofs.lemmas.Map.Made.{length-le_from_is_member}
use Rattle.std.proofs.lemmas.Map.Text.{is_eq-slice_cmp}
use Rattle.std.proofs.lemmas.Slice.Eq.{bytes_eq-Decides}
use Rattle.std.specs.Cmp.{IsEquivalence}
use Rattle.std.specs.Cmp.Lexicographic.{slice_cmp}
use Rattle.std.specs.Ordering.{nat_cmp, is_eq}
use Rattle.std.specs.List.{AllByRecursion, IsDistinct}
use Rattle.std.specs.List.Sorted.{IsStrictlySortedBy}
use Rattle.std.specs.declared.cmp.Ordering.TheVariants.{Less}
use Rattle.envvars.specs.Texts.{Text}
use Rattle.filetree.specs.hiding.Hidden.{is_among}

same_flips : (x y : Text) (a b : Bool) → bytes_eq x y ≡ a → bytes_eq y x ≡ b → a ≡ b
same_flips x y true true e f = refl
same_flips x y false false e f = refl
same_flips x y true false e f = absurd (false≢true (sym f ∙ (bytes_eq-Decides y x).1 (sym ((bytes_eq-Decides x y).0 e))))
same_flips x y false true e f = absurd (false≢true (sym e ∙ (bytes_eq-Decides x y).1 (sym ((bytes_eq-Decides y x).0 f))))

text_equality : IsEquivalence bytes_eq
text_equality = record {
  refl = λ x. (bytes_eq-Decides x x).1 refl;
  symm = λ x y. same_flips x y (bytes_eq x y) (bytes_eq y x) refl refl;
  congr = λ x y z e. ap (λ w. bytes_eq w z) ((bytes_eq-Decides x y).0 e);
}

apart : (x : Text) (ys : List Text) → AllByRecursion (λ (y : Text). slice_cmp nat_cmp x y ≡ Less) ys → AllByRecursion (λ (y : Text). bytes_eq x y ≡ false) ys
apart x [] h = tt
apart x (y ∷ ys) h = (sym (is_eq-slice_cmp x y) ∙ ap is_eq h.0, apart x ys h.1)

distinct : (paths : List Text) → IsStrictlySortedBy (slice_cmp nat_cmp) paths → IsDistinct bytes_eq paths
unfolding IsStrictlySortedBy IsDistinct
distinct [] h = tt
distinct (x ∷ xs) h = (apart x xs h.0, distinct xs h.1)

-- paths that stand each once, in the order of their bytes, are no more than those among which they are
pub fewer : (paths others : List Text) → IsStrictlySortedBy (slice_cmp nat_cmp) paths
    → ((q : Text) → is_among paths q ≡ true → is_among others q ≡ true) → length paths ≤ length others
fewer paths others order within = length-le_from_is_member text_equality paths others (distinct paths order) within

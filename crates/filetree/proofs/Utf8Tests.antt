-- The test of UTF-8 is std's.
use Rattle.std.proofs.Common.{◌≡◌, ℕ, true, false, List, [], ◌∷◌, ◌++◌, ◌&&◌, refl, sym, ap, ◌∙◌, inl, inr}
use Rattle.std.proofs.lemmas.Bool.{cases_Bool}
use Rattle.std.proofs.lemmas.Str.{IsUtf8-from_is_utf8, is_utf8-from_IsUtf8}
use Rattle.std.specs.Str.{IsUtf8, is_utf8, chars, all_scalars, bytes_eq, encode_utf8_all}
use lib.Utf8.{encode}
use Rattle.filetree.specs.Utf8.{code_points, spelled, all_spelled, is_text}

same_points : (bs : List ℕ) → code_points bs ≡ chars bs
unfolding chars
same_points [] = refl
same_points (b ∷ bs) = refl

same_spelling : (c : ℕ) → spelled c ≡ encode c
unfolding encode
same_spelling c = refl

all_same_spelling : (cs : List ℕ) → all_spelled cs ≡ encode_utf8_all cs
all_same_spelling [] = refl
all_same_spelling (c ∷ cs) = ap (λ bs. bs ++ all_spelled cs) (same_spelling c) ∙ ap (λ bs. encode c ++ bs) (all_same_spelling cs)

same_test : (bs : List ℕ) → is_text bs ≡ is_utf8 bs
unfolding is_utf8
same_test bs =
    ap (λ cs. all_scalars cs && bytes_eq (all_spelled cs) bs) (same_points bs)
    ∙ ap (λ spelled. all_scalars (chars bs) && bytes_eq spelled bs) (all_same_spelling (chars bs))

pub is_text-yes : (bs : List ℕ) → IsUtf8 bs → is_text bs ≡ true
is_text-yes bs u = same_test bs ∙ is_utf8-from_IsUtf8 bs u

pub is_text-no : (bs : List ℕ) → (IsUtf8 bs → ⊥) → is_text bs ≡ false
is_text-no bs u = elim (cases_Bool (is_text bs)) [
  | inl e ↦ absurd (u (IsUtf8-from_is_utf8 bs (sym (same_test bs) ∙ e)))
  | inr e ↦ e
]

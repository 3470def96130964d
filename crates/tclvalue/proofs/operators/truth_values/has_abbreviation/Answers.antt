use Rattle.std.proofs.Common.{◌≡◌, ℕ, [], ◌∷◌, length, Bool, false, ◌∙◌, sym, ap, map, take, min}
use Rattle.std.specs.Prelude.{◌==◌, ◌↔◌, IsTrue}
use Rattle.std.specs.Char.{to_ascii_lowercase}
use Rattle.std.specs.Str.{bytes_eq}
use Rattle.std.proofs.lemmas.Bool.Decides.{same_from_decides}
use Rattle.std.proofs.lemmas.Slice.Eq.{bytes_eq-Decides}
use Rattle.std.proofs.lemmas.List.{take_min}
use Rattle.tcltext.specs.chars.Runs.{Text}
use Rattle.tclvalue.specs.operators.Operators.{has_abbreviation}
use Rattle.tclvalue.proofs.operators.truth_values.has_abbreviation.Goals as goal

front_test : (w t x y : Text) (n : ℕ) (r : Bool) → (length t == 0) ≡ false → n ≡ min (length t) (length w) → x ≡ w → y ≡ t
    → (IsTrue r ↔ (map to_ascii_lowercase (take n x) ≡ map to_ascii_lowercase y)) → r ≡ has_abbreviation w t
front_test w [] x y n r some least ex ey same = cc
front_test w (c ∷ cs) x y n r some least ex ey same =
    same_from_decides r _ same (bytes_eq-Decides (map to_ascii_lowercase (take n x)) (map to_ascii_lowercase y))
    ∙ ap (λ z. bytes_eq (map to_ascii_lowercase (take n x)) (map to_ascii_lowercase z)) ey
    ∙ ap (λ z. bytes_eq (map to_ascii_lowercase (take n z)) (map to_ascii_lowercase (c ∷ cs))) ex
    ∙ ap (λ f. bytes_eq (map to_ascii_lowercase f) (map to_ascii_lowercase (c ∷ cs))) (ap (λ m. take m w) least ∙ take_min (length (c ∷ cs)) w)

pub returns-then-not-is_empty : goal.returns-then-not-is_empty
returns-then-not-is_empty c = front_test c.args.word.now c.args.text.now c.as_bytes.result.now
    c.as_bytes-then-not-is_empty.result.now c.min-length.result c.eq_ignore_ascii_case.result
    (sym c.if-not-is_empty.ensures) c.min-length.ensures c.as_bytes.ensures.value
    c.as_bytes-then-not-is_empty.ensures.value c.eq_ignore_ascii_case.ensures.test

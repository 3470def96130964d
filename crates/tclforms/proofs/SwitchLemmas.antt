-- Words in twos.
use Rattle.std.proofs.Common.{◌≡◌, ◌%◌, List, [], ◌∷◌, Some, None, map, length, String, Global, refl, arith}
use Rattle.std.specs.Prelude.{string_bytes}
use Rattle.tclrules.specs.Forms.{paired}
use Rattle.tclforms.specs.Views.{in_pairs}

pub words_even : (ws : List (String Global)) → length ws % 2 ≡ 0 → paired (map string_bytes ws) ≡ Some (in_pairs (map string_bytes ws))
words_even [] h = refl
words_even (a ∷ []) h = absurd (omega arith)
words_even (a ∷ b ∷ ws) h =
    let e : length ws % 2 ≡ 0 = omega arith in
    rw (words_even ws e) refl

pub words_odd : (ws : List (String Global)) → length ws % 2 ≡ 1 → paired (map string_bytes ws) ≡ None
words_odd [] h = absurd (omega arith)
words_odd (a ∷ []) h = refl
words_odd (a ∷ b ∷ ws) h =
    let e : length ws % 2 ≡ 1 = omega arith in
    rw (words_odd ws e) refl

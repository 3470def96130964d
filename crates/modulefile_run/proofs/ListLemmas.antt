-- Lists of texts in which some text is sought.
use Rattle.std.proofs.Common.{◌≡◌, ◌≤◌, Bool, true, ◌||◌, List, [], ◌∷◌, length, map, string_bytes, String, refl, ap}
use Rattle.std.proofs.Common.{arith}
use Rattle.std.specs.declared.alloc.Global.{Global}
use Rattle.std.specs.List.{list_any}
use Rattle.envvars.specs.Texts.{Text}

-- there is a text, so some text is any
pub some_text : (texts : List (String Global)) → 1 ≤ length texts → true ≡ list_any (λ (text : Text). true) (map string_bytes texts)
some_text [] h = absurd (omega (arith, h))
some_text (t ∷ ts) h = refl

-- whether some text passes
pub any_text : (p : Text → Bool) (texts : List (String Global)) → list_any (λ x. p (string_bytes x)) texts ≡ list_any p (map string_bytes texts)
any_text p [] = refl
any_text p (x ∷ xs) = ap (λ (b : Bool). p (string_bytes x) || b) (any_text p xs)

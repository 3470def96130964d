-- Forms of so many words.
use Rattle.std.proofs.Common.{◌≡◌, ◌<◌, ◌≤◌, List, [], ◌∷◌, map, length, get_or, String, Global, sym, ap, ◌∙◌, arith}
use Rattle.std.specs.Prelude.{string_bytes}
use Rattle.tclrules.specs.Forms.{without_newline, puts_form}

pub puts_of_three : (ws : List (String Global)) (o c : String Global) → 3 ≤ length ws → length ws < 4
    → o ≡ get_or ws 0 o → c ≡ get_or ws 1 c → puts_form (map string_bytes ws) ≡ without_newline (string_bytes o)
    (string_bytes c) (map string_bytes ws)
puts_of_three [] o c h g p q = absurd (omega arith)
puts_of_three (a ∷ []) o c h g p q = absurd (omega arith)
puts_of_three (a ∷ b ∷ []) o c h g p q = absurd (omega arith)
puts_of_three (a ∷ b ∷ d ∷ []) o c h g p q =
    ap (λ (x : String Global). without_newline (string_bytes x) (string_bytes b) (map string_bytes (a ∷ b ∷ d ∷ [])))
    (sym p) ∙ ap (λ (x : String Global). without_newline (string_bytes o) (string_bytes x)
    (map string_bytes (a ∷ b ∷ d ∷ []))) (sym q)
puts_of_three (a ∷ b ∷ d ∷ e ∷ ws) o c h g p q = absurd (omega arith)

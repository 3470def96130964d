use Rattle.std.proofs.Common.{◌≡◌, ℕ, ◌<◌, ◌≤◌, true, false, ◌==◌, List, [], ◌∷◌, length, drop, get_or, None, refl, sym}
use Rattle.std.proofs.Common.{ap, arith, length-drop, add-zero}
use Rattle.std.specs.Str.{IsCharBoundary}
use Rattle.std.proofs.lemmas.Bool.Decides.{nat_tests}
use Rattle.std.proofs.lemmas.List.{get_or-drop}
use Rattle.std.proofs.lemmas.Str.{IsCharBoundary-before_ascii}
use Rattle.tcltext.specs.chars.Classes.{is_name}
use Rattle.tcltext.specs.expr.UnsupportedSyntax.{unsupported_at}
use Rattle.tcleval.proofs.trees.rest_at.Goals as goal

no_star : (b : ℕ) → 128 ≤ b → (b == 42) ≡ false
no_star b h = grind (arith, nat_tests)

no_name : (b : ℕ) → 128 ≤ b → is_name b ≡ false
no_name b h = grind (arith, nat_tests)

-- nothing that is left out begins inside a character
inside : (bs : List ℕ) (i : ℕ) → (IsCharBoundary bs i → ⊥) → unsupported_at (drop i bs) ≡ None
inside bs i h = go (drop i bs) refl
  where
    go : (ds : List ℕ) → drop i bs ≡ ds → unsupported_at ds ≡ None
    go [] e = refl
    go (b ∷ ds) e =
        let w : i < length bs = omega (arith, length-drop i bs, ap length e) in
        let g : get_or bs i 0 ≡ b = sym (rw (e, add-zero i) at (get_or-drop i bs 0 0)) in
        let p : (b < 128 → ⊥) = λ l. h (IsCharBoundary-before_ascii bs i w (rw g l)) in
        let q : 128 ≤ b = omega arith in
        rw (no_star b q, no_name b q) refl

pub returns-else-is_char_boundary : goal.returns-else-is_char_boundary
returns-else-is_char_boundary c = inside c.args.text.now c.args.offset (λ b. let d : false ≡ true = c.if-is_char_boundary.ensures.test.1 b in cc)

-- Sets of patterns, one item at a time.
use Rattle.std.proofs.Common.{◌≡◌, ℕ, ◌∷◌, [], Bool, true, false, Option, Some, None, refl, sym, ap, arith}
use Rattle.std.specs.Prelude.{◌==◌, if◌then◌else◌}
use Rattle.std.proofs.lemmas.Bool.Decides.{nat_tests}
use Rattle.tcltext.specs.chars.Runs.{Text}
use Rattle.tcltext.specs.pattern.Patterns.{is_between, close_bracket, dash}
use Rattle.tclvalue.specs.Globs.{where_holds, rest_after_set}

-- the other end of an item that begins so, the same where it is a character, and what follows the item
abbrev pub item : ℕ → Text → Option (ℕ × Text)
item low [] = Some (low, [])
item low (d ∷ []) = if d == dash then None else Some (low, d ∷ [])
item low (d ∷ high ∷ ps) = if d == dash then Some (high, ps) else Some (low, d ∷ high ∷ ps)

between_itself : (low c : ℕ) → is_between low low c ≡ (low == c)
between_itself low c = grind (arith, nat_tests)

abbrev pub set_step : ℕ → ℕ → Option (ℕ × Text) → Option Text
set_step c low None = None
set_step c low (Some i) = where_holds (is_between low i.0 c) i.1 (rest_after_set c i.1)

short_item : (t : Bool) (c low : ℕ) (ps : Text) → (if t then None else where_holds (low == c) ps (rest_after_set c ps)) ≡ set_step c low (if t then None else Some (low, ps))
short_item true c low ps = refl
short_item false c low ps = ap (λ b. where_holds b ps (rest_after_set c ps)) (sym (between_itself low c))

long_item : (t : Bool) (c low high : ℕ) (ps qs : Text)
    → (if t then where_holds (is_between low high c) ps (rest_after_set c ps) else where_holds (low == c) qs (rest_after_set c qs)) ≡ set_step c low (if t then Some (high, ps) else Some (low, qs))
long_item true c low high ps qs = refl
long_item false c low high ps qs = ap (λ b. where_holds b qs (rest_after_set c qs)) (sym (between_itself low c))

pub behind_item : (c low : ℕ) (ps : Text) → (low == close_bracket) ≡ false → rest_after_set c (low ∷ ps) ≡ set_step c low (item low ps)
behind_item c low [] h = rw h (ap (λ b. where_holds b [] None) (sym (between_itself low c)))
behind_item c low (d ∷ []) h = rw h (short_item (d == dash) c low (d ∷ []))
behind_item c low (d ∷ high ∷ ps) h = rw h (long_item (d == dash) c low high ps (d ∷ high ∷ ps))

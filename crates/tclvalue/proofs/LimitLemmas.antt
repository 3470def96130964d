-- A text repeated, within and beyond the limit on a value.
use Rattle.std.proofs.Common.{◌≡◌, ℕ, ◌*◌, ◌<◌, ◌≤◌, [], length, Ok, Err, refl, sym, ap, ◌∙◌, arith}
use Rattle.std.specs.List.{repeat}
use Rattle.std.proofs.lemmas.Bool.{le-leb, lt-leb}
use Rattle.tcltext.specs.chars.Runs.{Text}
use Rattle.tclvalue.specs.operators.Faults.{value_too_long}
use Rattle.tclvalue.specs.Limits.{limited}
use Rattle.tclvalue.proofs.IndexLemmas.{length_repeat, repeat_nothing}

within : (limit : ℕ) (t : Text) → length t ≤ limit → limited limit t ≡ Ok t
within limit t h = rw (le-leb (length t) limit h) refl

beyond : (limit : ℕ) (t : Text) → limit < length t → limited limit t ≡ Err value_too_long
beyond limit t h = rw (lt-leb (length t) limit h) refl

pub no_copies : (limit count : ℕ) (t made : Text) → length t ≡ 0 → made ≡ [] → limited limit (repeat count t) ≡ Ok made
no_copies limit count t made h e = ap (limited limit) (repeat_nothing count t h) ∙ within limit [] (omega arith) ∙ ap Ok (sym e)

pub few_copies : (limit count : ℕ) (t made : Text) → length t * count ≤ limit → made ≡ repeat count t → limited limit (repeat count t) ≡ Ok made
few_copies limit count t made h e = within limit (repeat count t) (omega (arith, length_repeat count t)) ∙ ap Ok (sym e)

pub many_copies : (limit count : ℕ) (t : Text) → limit < length t * count → limited limit (repeat count t) ≡ Err value_too_long
many_copies limit count t h = beyond limit (repeat count t) (omega (arith, length_repeat count t))

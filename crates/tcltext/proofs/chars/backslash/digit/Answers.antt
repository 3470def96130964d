use Rattle.std.proofs.Common.{◌≡◌, ◌<◌, get_or, sym, ap, arith, ℕ, List}
use Rattle.std.proofs.lemmas.Str.{IsCharBoundary-after_ascii}
use Rattle.std.specs.Char.{digit_value}
use Rattle.tcltext.proofs.chars.BackslashLemmas.{digit_small}
use Rattle.tcltext.proofs.chars.backslash.digit.Goals as goal

pub split_at-requires : goal.split_at-requires
split_at-requires c =
    let first : get_or c.args.text.now 0 0 ≡ get_or c.as_bytes.result.now 0 0 = ap (λ (bs : List ℕ). get_or bs 0 0) (sym c.as_bytes.ensures.value) in
    let value : digit_value (get_or c.as_bytes.result.now 0 0) < 36 = omega (arith, c.digit_value.ensures) in
    let small : get_or c.args.text.now 0 0 < 128 = rw first (digit_small _ value) in
    IsCharBoundary-after_ascii c.args.text.now 0 c.utf8.text (rw (← c.as_bytes.ensures.value) (omega arith)) small

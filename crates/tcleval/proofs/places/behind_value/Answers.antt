use Rattle.std.proofs.Common.{◌≡◌, ◌-◌, ◌∷◌, suc, drop, get_or, length, take, sym, ◌∙◌, arith}
use Rattle.std.proofs.lemmas.List.{take_rest}
use Rattle.tclrules.specs.Places.{behind_value}
use Rattle.tcleval.proofs.PlaceLemmas.{first_and_rest}
use Rattle.tcleval.proofs.places.behind_value.Goals as goal

pub loop-left-preserved : goal.loop-left-preserved
loop-left-preserved c =
    let rest = c.loop-left.rest.now in
    let more : behind_value c.loop-left.escaped (suc (c.loop-left.left - 1)) (get_or rest 0 0 ∷ take (length rest - 1) (drop 1 rest))
    ≡ behind_value c.behind_byte-escapes.result.0 (c.loop-left.left - 1) c.behind_byte-escapes.result.1.now = c.behind_byte-escapes.ensures (c.loop-left.left - 1) in
    let one : suc (c.loop-left.left - 1) ≡ c.loop-left.left = omega arith in
    let whole = first_and_rest rest c.in-len1-up.len_at_least in
    sym (rw (one, take_rest rest 1, whole) at more) ∙ c.loop-left.invariant

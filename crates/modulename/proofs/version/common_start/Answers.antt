use Rattle.std.proofs.Common.{◌≡◌, ◌+◌, ◌∷◌, true, false, Some, None, get_or, drop, sym, ap, ◌∙◌, arith, rules}
use Rattle.std.proofs.lemmas.List.{drop_more}
use Rattle.modulename.specs.Versions.{is_digit}
use Rattle.modulename.proofs.StartLemmas.{run_with, behind_digit, behind_other}
use Rattle.modulename.proofs.version.common_start.Goals as goal

pub loop-same-preserved-then-not-is_digit : goal.loop-same-preserved-then-not-is_digit
loop-same-preserved-then-not-is_digit c =
    let xs = c.args.left.now in
    let ys = c.args.right.now in
    let i = c.loop-same.same in
    let held = c.loop-same.invariant.rest in
    let same : get_or xs i 0 ≡ get_or ys i 0 = search rules in
    let first = drop_more xs i 0 (omega arith) in
    let second = drop_more ys i 0 (omega arith) ∙ ap (λ b. b ∷ drop (i + 1) ys) (sym same) in
    let other : is_digit (get_or xs i 0) ≡ false = search rules in
    let next = behind_other _ held.0 (get_or xs i 0) (drop i xs) (drop i ys) _ _ first second held.1 other in
    record { started = omega arith; within = omega arith; inside = omega arith; start = next; rest = (None, next) }

pub loop-same-preserved : goal.loop-same-preserved
loop-same-preserved c =
    let xs = c.args.left.now in
    let ys = c.args.right.now in
    let i = c.loop-same.same in
    let held = c.loop-same.invariant.rest in
    let same : get_or xs i 0 ≡ get_or ys i 0 = search rules in
    let first = drop_more xs i 0 (omega arith) in
    let second = drop_more ys i 0 (omega arith) ∙ ap (λ b. b ∷ drop (i + 1) ys) (sym same) in
    let digit : is_digit (get_or xs i 0) ≡ true = search rules in
    let next = behind_digit _ held.0 (get_or xs i 0) (drop i xs) (drop i ys) _ _ first second held.1 digit in
    record {
      started = omega arith;
      within = omega arith;
      inside = omega arith;
      start = c.loop-same.invariant.start;
      rest = (Some (run_with held.0 (get_or xs i 0)), next);
    }

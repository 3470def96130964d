use Rattle.std.proofs.Common.{◌≡◌, ◌^◌, min, ◌*◌, ◌-◌, length, ap, ◌∙◌, arith}
use Rattle.tclforms.proofs.TurnLemmas.{left_before}
use Rattle.tclforms.proofs.loops.remaining.Goals as goal

pub returns-then-passed-len : goal.returns-then-passed-len
returns-then-passed-len c =
    let n : c.len.result ≡ length c.args.list.now.names.items = omega arith in
    left_before c.args.list.now c.args.turns c.saturating_mul-passed.result c.deref.result.now
    (c.saturating_mul-passed.ensures ∙ ap (λ n. min (c.args.turns * n) (2 ^ 64 - 1)) n) c.deref.ensures.value
    (omega arith) (omega arith)

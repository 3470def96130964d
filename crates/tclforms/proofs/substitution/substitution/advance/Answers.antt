use Rattle.std.proofs.Common.{reverse, Ok, arith}
use Rattle.std.proofs.lemmas.Result.{err_from_is_err_and}
use Rattle.tclrules.proofs.Leading.{stay, continue_with}
use Rattle.tclforms.proofs.substitution.Trees.{less_more}
use Rattle.tclforms.proofs.substitution.substitution.advance.Goals as goal

pub loop-next-init : goal.loop-next-init
loop-next-init g c = record { evaluates_to = λ most used remaining scripts r k. stay; less = omega arith }

pub returns-in_err-step : goal.returns-in_err-step
returns-in_err-step g c =
    let p = err_from_is_err_and c.from_residual.result c.from_residual.ensures.1 in
    rw (p.1, p.2) (λ most used remaining scripts r k. continue_with (c.loop-next.invariant.evaluates_to most used remaining scripts r k) (c.in_err-step.ensures.0 most used remaining scripts r k), tt)

pub loop-next-smaller : goal.loop-next-smaller
loop-next-smaller g c = let h = rw c.in-Next.is at c.in_ok-step.ensures in omega (arith, h.1)

pub loop-next-preserved : goal.loop-next-preserved
loop-next-preserved g c = let h = rw c.in-Next.is at c.in_ok-step.ensures in
    record {
      evaluates_to = λ most used remaining scripts r k. continue_with
          (c.loop-next.invariant.evaluates_to most used remaining scripts r k) (h.0 most used remaining scripts r k);
      less = omega
          (arith, c.loop-next.invariant.less, h.1);
    }

pub returns-in_default : goal.returns-in_default
returns-in_default g c = let h = c.in_ok-step.ensures in (
  λ most used remaining scripts r k. continue_with (c.loop-next.invariant.evaluates_to most used remaining scripts r k)
      (h.0 most used remaining scripts r k),
  less_more c.args.context.source.now (reverse c.step.new.stack.items) _ _
      (Ok c.in_ok-step.step) h.1 c.loop-next.invariant.less,
)

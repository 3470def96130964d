use Rattle.std.proofs.Common.{ℕ, ◌≤◌, ◌+◌, List, reverse}
use Rattle.tclrules.specs.Plans as plans
use Rattle.tclrules.specs.Plans.{Job, Next}
use Rattle.tclrules.specs.Derivation.{OpenScript}
use Rattle.tclrules.specs.Simulates.{Simulates, point}
use Rattle.tclforms.specs.substitution.Machine.{bounds, control_plan, stack_continuation, control_weight, frames_weight}
use Rattle.tclforms.proofs.substitution.substitution.advance.Given as goal

abbrev pub invariant-loop-next : goal.invariant-loop-next
invariant-loop-next g l =
    let o = g.H.Host.oracle in
    let t = g.H.Host.trace in
    let source = l.context.source.now in
    record {
      evaluates_to : (most used remaining : ℕ) (scripts : List OpenScript) (r : Job → plans.Step) (k : Next)
          → Simulates most r (control_plan source (bounds l.context.limits.value_bytes remaining) l.fn.control
          l.context.variables.now (stack_continuation source (bounds l.context.limits.value_bytes remaining)
          (reverse l.fn.stack.items) k)) (point (o l.fn.host) (t l.fn.host) used scripts)
          (control_plan source (bounds l.context.limits.value_bytes remaining) l.control l.context.variables.now
          (stack_continuation source (bounds l.context.limits.value_bytes remaining) (reverse l.stack.items) k))
          (point (o l.host) (t l.host) used scripts);
      less : control_weight source l.control + frames_weight source (reverse l.stack.items) ≤ control_weight source l.fn.control + frames_weight source (reverse l.fn.stack.items);
    }

abbrev pub decreases-loop-next : goal.decreases-loop-next
decreases-loop-next g l = control_weight l.context.source.now l.control + frames_weight l.context.source.now (reverse l.stack.items)

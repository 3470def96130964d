use Rattle.std.proofs.Common.{ℕ}
use Rattle.std.specs.Vec.Iter.{into_iter_items}
use Rattle.tclrules.specs.Variables.{State}
use Rattle.tclrules.specs.Plans as plans
use Rattle.tclrules.specs.Plans.{Job}
use Rattle.tclrules.specs.Simulates.{Simulates, Point}
use Rattle.tclrules.specs.Rules.{assign}
use Rattle.tclforms.specs.substitution.Machine.{bounds}
use Rattle.tclcommands.specs.Continuations.{named_values}
use Rattle.tclcommands.proofs.writing.assign.Given as goal

abbrev pub invariant-loop-name : goal.invariant-loop-name
invariant-loop-name l = (most remaining : ℕ) (r : Job → plans.Step) (k : State → plans.Step) (x : Point)
    → Simulates most r (assign (bounds l.limit remaining) (named_values l.fn.pairs.items) l.fn.variables k) x
    (assign (bounds l.limit remaining) (named_values (into_iter_items l.name-iterator)) l.variables k) x

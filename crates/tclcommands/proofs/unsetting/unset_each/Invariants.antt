use Rattle.std.proofs.Common.{ℕ, drop, map, string_bytes}
use Rattle.tclrules.specs.Variables.{State}
use Rattle.tclrules.specs.Plans as plans
use Rattle.tclrules.specs.Plans.{Job}
use Rattle.tclrules.specs.Simulates.{Simulates, Point}
use Rattle.tclrules.specs.Rules.{unset}
use Rattle.tclforms.specs.Views.{is_ignored}
use Rattle.tclcommands.proofs.unsetting.unset_each.Given as goal

abbrev pub invariant-loop-name : goal.invariant-loop-name
invariant-loop-name l = (most : ℕ) (r : Job → plans.Step) (k : State → plans.Step) (x : Point)
    → Simulates most r (unset (is_ignored l.missing) (map string_bytes l.names) l.fn.variables k) x
    (unset (is_ignored l.missing) (map string_bytes (drop l.name-index l.names)) l.variables k) x

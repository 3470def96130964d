use Rattle.std.proofs.Common.{◌≡◌, length}
use Rattle.tclrules.specs.Plans.{around}
use Rattle.tcleval.proofs.open_scripts.OpenScripts.leave.Given as goal

abbrev pub invariant-loop-self : goal.invariant-loop-self
invariant-loop-self l = around l.remaining l.self ≡ around l.remaining l.fn.self

abbrev pub decreases-loop-self : goal.decreases-loop-self
decreases-loop-self l = length l.self

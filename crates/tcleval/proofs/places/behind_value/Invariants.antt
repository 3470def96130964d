use Rattle.std.proofs.Common.{◌≡◌, false}
use Rattle.tclrules.specs.Places.{behind_value}
use Rattle.tcleval.proofs.places.behind_value.Given as goal

abbrev pub invariant-loop-left : goal.invariant-loop-left
invariant-loop-left l = behind_value l.escaped l.left l.rest ≡ behind_value false l.offset l.inside

abbrev pub decreases-loop-left : goal.decreases-loop-left
decreases-loop-left l = l.left

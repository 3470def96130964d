use Rattle.std.proofs.Common.{◌≡◌, length}
use Rattle.tclvalue.specs.Characters.{without_end}
use Rattle.tclvalue.proofs.characters.without_end.Given as goal

abbrev pub invariant-loop-last : goal.invariant-loop-last
invariant-loop-last l = without_end l.set l.rest ≡ without_end l.set l.fn.text

abbrev pub decreases-loop-last : goal.decreases-loop-last
decreases-loop-last l = length l.rest

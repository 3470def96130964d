use Rattle.std.proofs.Common.{◌≡◌, length}
use Rattle.tclvalue.specs.Characters.{without_start}
use Rattle.tclvalue.proofs.characters.without_start.Given as goal

abbrev pub invariant-loop-rest : goal.invariant-loop-rest
invariant-loop-rest l = without_start l.set l.rest ≡ without_start l.set l.fn.text

abbrev pub decreases-loop-rest : goal.decreases-loop-rest
decreases-loop-rest l = length l.rest

use Rattle.std.proofs.Common.{◌≡◌, map, drop}
use Rattle.tclrules.specs.Rules.{are_done}
use Rattle.tclforms.specs.ArgumentViews.{remaining_after}
use Rattle.tclforms.proofs.loops.Loops.are_done.Given as goal

abbrev pub invariant-loop-list : goal.invariant-loop-list
invariant-loop-list l = are_done (map (remaining_after l.self-inside.turns) l.list-items) ≡ are_done (map (remaining_after l.self-inside.turns) (drop l.list-index l.list-items))

use Rattle.std.proofs.Common.{◌≡◌, ◌++◌, map, drop}
use Rattle.tclrules.specs.Rules.{turn_pairs}
use Rattle.tclforms.specs.ArgumentViews.{named_values, remaining_after}
use Rattle.tclforms.proofs.loops.Loops.turn_pairs.Given as goal

abbrev pub invariant-loop-list : goal.invariant-loop-list
invariant-loop-list l = named_values l.pairs.items
    ++ turn_pairs (map (remaining_after l.self-inside.turns) (drop l.list-index l.list-items)) ≡ turn_pairs
    (map (remaining_after l.self-inside.turns) l.list-items)

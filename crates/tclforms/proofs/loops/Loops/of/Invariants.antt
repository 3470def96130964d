use Rattle.std.proofs.Common.{◌≡◌, map, drop}
use Rattle.tclrules.specs.Rules.{loops}
use Rattle.tclforms.specs.Views.{pair_texts}
use Rattle.tclforms.specs.ArgumentViews.{remaining_after}
use Rattle.tclforms.specs.Lists.{prefixed}
use Rattle.tclforms.proofs.loops.Loops.of.Given as goal

abbrev pub invariant-loop-names : goal.invariant-loop-names
invariant-loop-names l = loops (pair_texts l.lists) ≡ prefixed (map (remaining_after 0) l.read.items) (loops (pair_texts (drop l.names-index l.lists)))

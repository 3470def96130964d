use Rattle.std.proofs.Common.{◌≡◌, map, length, string_bytes}
use Rattle.tclforms.specs.Views.{in_pairs, is_glob}
use Rattle.tclrules.specs.Rules.{chosen}
use Rattle.tclforms.proofs.choice.chosen.Given as goal

abbrev pub invariant-loop-rest : goal.invariant-loop-rest
invariant-loop-rest l = chosen (is_glob l.comparison) l.text (in_pairs (map string_bytes l.patterns)) ≡ chosen (is_glob l.comparison) l.text (in_pairs (map string_bytes l.rest))

abbrev pub decreases-loop-rest : goal.decreases-loop-rest
decreases-loop-rest l = length l.rest

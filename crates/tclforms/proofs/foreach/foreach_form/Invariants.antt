use Rattle.std.proofs.Common.{◌≡◌, map, length, string_bytes}
use Rattle.tclrules.specs.Forms.{loop_pairs}
use Rattle.tclforms.specs.Views.{pair_texts}
use Rattle.tclforms.specs.Branches.{prefixed_pairs}
use Rattle.tclforms.proofs.foreach.foreach_form.Given as goal

abbrev pub invariant-loop-rest : goal.invariant-loop-rest
invariant-loop-rest l = loop_pairs (map string_bytes l.fn.words) ≡ prefixed_pairs (pair_texts l.pairs.items) (loop_pairs (map string_bytes l.rest))

abbrev pub decreases-loop-rest : goal.decreases-loop-rest
decreases-loop-rest l = length l.rest

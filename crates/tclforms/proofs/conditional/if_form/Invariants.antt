use Rattle.std.proofs.Common.{◌≡◌, map, length, string_bytes}
use Rattle.tclrules.specs.Forms.{branches}
use Rattle.tclforms.specs.Views.{pair_texts}
use Rattle.tclforms.specs.Branches.{prefixed_pairs}
use Rattle.tclforms.proofs.conditional.if_form.Given as goal

abbrev pub invariant-loop-branch : goal.invariant-loop-branch
invariant-loop-branch l = branches (map string_bytes l.fn.words) ≡ prefixed_pairs (pair_texts l.branches.items) (branches (map string_bytes l.rest))

abbrev pub decreases-loop-branch : goal.decreases-loop-branch
decreases-loop-branch l = length l.rest

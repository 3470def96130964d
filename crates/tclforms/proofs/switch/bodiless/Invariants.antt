use Rattle.std.proofs.Common.{◌≡◌, map, length, string_bytes}
use Rattle.tclrules.specs.Forms.{bodiless}
use Rattle.tclforms.specs.Views.{in_pairs}
use Rattle.tclforms.proofs.switch.bodiless.Given as goal

abbrev pub invariant-loop-rest : goal.invariant-loop-rest
invariant-loop-rest l = bodiless (in_pairs (map string_bytes l.fn.patterns)) ≡ bodiless (in_pairs (map string_bytes l.rest))

abbrev pub decreases-loop-rest : goal.decreases-loop-rest
decreases-loop-rest l = length l.rest

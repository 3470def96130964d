use Rattle.std.proofs.Common.{◌≡◌, ◌++◌, Ok, length, map, string_bytes}
use Rattle.tclvalue.specs.operators.Faults.{◌>>=◌}
use Rattle.tclvalue.specs.Searches.{pairs_of}
use Rattle.tclvalue.specs.Views.{pair_view}
use Rattle.tclvalue.proofs.searches.replacements.Given as goal

abbrev pub invariant-loop-rest : goal.invariant-loop-rest
invariant-loop-rest l = pairs_of (map string_bytes l.fn.elements) ≡ pairs_of (map string_bytes l.rest) >>= (λ ps. Ok (map pair_view l.replacements.items ++ ps))

abbrev pub decreases-loop-rest : goal.decreases-loop-rest
decreases-loop-rest l = length l.rest

use Rattle.std.proofs.Common.{w64, arith}
use Rattle.std.proofs.lemmas.Int.{ints, to_z-of_z}
use Rattle.tclforms.proofs.variables.Decimals.{known}
use Rattle.tclforms.proofs.variables.table.known_number.Goals as goal

pub returns-else-sum-lt0 : goal.returns-else-sum-lt0
returns-else-sum-lt0 c =
    rw (to_z-of_z w64 c.args.sum c.ranges.sum) (known c.args.sum c.ranges.sum (λ n e. let q = c.if-sum-lt0.false in omega (arith, ints, e, q)))

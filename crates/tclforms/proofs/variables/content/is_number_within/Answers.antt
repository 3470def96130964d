use Rattle.std.proofs.Common.{arith}
use Rattle.std.proofs.lemmas.Bool.Decides.{nat_tests}
use Rattle.tclforms.proofs.variables.Decimals.{short}
use Rattle.tclforms.proofs.variables.content.is_number_within.Goals as goal

pub returns-then-limit-ge-NUMBER_BYTES : goal.returns-then-limit-ge-NUMBER_BYTES
returns-then-limit-ge-NUMBER_BYTES c =
    let s = short c.args.number c.ranges.number in
    let t = c.if-limit-ge-NUMBER_BYTES.true in
    grind (arith, nat_tests)

use Rattle.std.proofs.Common.{sym}
use Rattle.port_rewriting.proofs.laws.families_are_symmetric.Goals as goal

pub returns : goal.returns
returns c = λ is_member modules one other ones others ne a b m n h k. (h other b (λ e. ne (sym e)) n, k one a ne m)

use Rattle.std.proofs.Common.{refl}
use Rattle.port_rewriting.proofs.Accounting.{none_at}
use Rattle.port_rewriting.proofs.translation.PiecesSoFar.new.Goals as goal

pub returns : goal.returns
returns c = c.in_ok-add.ensures c.args.text.now (none_at c.args.text.now _ _ c.new.ensures.items refl)

use Rattle.port_rewriting.proofs.Accounting.{pushed_between}
use Rattle.port_rewriting.proofs.translation.PiecesSoFar.add_conflict.Goals as goal

pub returns : goal.returns
returns c = pushed_between c.args.self.now.rest.now _ _ _ c.in_ok-piece.ensures c.in_ok-push.ensures.items

use Rattle.port_rewriting.proofs.Accounting.{pushed_ended}
use Rattle.port_rewriting.proofs.translation.PiecesSoFar.add_rest.Goals as goal

pub returns : goal.returns
returns c = pushed_ended c.args.self.now.rest.now _ _ _ c.in_ok-piece.ensures c.in_ok-push.ensures.items

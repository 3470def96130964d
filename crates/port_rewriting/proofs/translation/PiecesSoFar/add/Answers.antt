use Rattle.port_rewriting.proofs.Accounting.{pushed}
use Rattle.port_rewriting.proofs.translation.PiecesSoFar.add.Goals as goal

pub returns : goal.returns
returns c = pushed c.args.self.now.rest.now _ _ _ _ _ c.split_within.ensures c.in_ok-piece.ensures c.in_ok-push.ensures.items

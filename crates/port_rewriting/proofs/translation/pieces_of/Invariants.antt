use Rattle.port_rewriting.specs.Accounts.{Accounts}
use Rattle.port_rewriting.specs.AccountViews.{pieces_view}
use Rattle.port_rewriting.proofs.translation.pieces_of.Given as goal

abbrev pub invariant-pieces : goal.invariant-pieces
invariant-pieces l = Accounts l.text (pieces_view l.so_far.pieces.items) l.so_far.rest.now

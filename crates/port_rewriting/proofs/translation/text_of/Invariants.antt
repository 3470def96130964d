use Rattle.std.proofs.Common.{◌≡◌, take, string_bytes}
use Rattle.port_rewriting.specs.Accounts.{written}
use Rattle.port_rewriting.specs.AccountViews.{pieces_view}
use Rattle.port_rewriting.proofs.translation.text_of.Given as goal

abbrev pub invariant-loop-piece : goal.invariant-loop-piece
invariant-loop-piece l = string_bytes l.text ≡ written (pieces_view (take l.piece-index l.pieces))

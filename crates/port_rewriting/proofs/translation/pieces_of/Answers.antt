use Rattle.std.proofs.Common.{subst, sym}
use Rattle.port_rewriting.specs.Accounts.{Accounts}
use Rattle.port_rewriting.specs.AccountViews.{pieces_view}
use Rattle.port_rewriting.specs.declared.translation.PiecesSoFar.{PiecesSoFar}
use Rattle.port_rewriting.proofs.translation.pieces_of.Goals as goal
use Rattle.port_rewriting.proofs.translation.pieces_of.Goals.{in-Some+in_ok-add_conflict, in_default}

pub pieces-init : goal.pieces-init
pieces-init c =
    let Holds = λ (s : PiecesSoFar). Accounts c.args.text.now (pieces_view s.pieces.items) s.rest.now in
    elim c.match-added.branch [
      | in-Some+in_ok-add_conflict w ↦ subst Holds (sym w.so_far-is) (w.in_ok-add_conflict.ensures c.args.text.now c.in_ok-so_far.ensures)
      | in_default w ↦ subst Holds (sym w.so_far-is) c.in_ok-so_far.ensures
    ]

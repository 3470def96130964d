use Rattle.std.proofs.Common.{◌≡◌, drop}
use Rattle.port_rewriting.specs.Classes.{worst_of_pieces}
use Rattle.port_rewriting.specs.declared.class.Class.TheVariants.{Same}
use Rattle.port_rewriting.proofs.translation.class_of.Given as goal

abbrev pub invariant-loop-piece : goal.invariant-loop-piece
invariant-loop-piece l = worst_of_pieces l.class (drop l.piece-index l.pieces) ≡ worst_of_pieces Same l.pieces

use Rattle.std.proofs.Common.{◌≡◌, length}
use Rattle.std.specs.Cmp.Lexicographic.{slice_cmp}
use Rattle.modulename.specs.Versions.{pieces, piece_order}
use Rattle.modulename.proofs.version.order_of_pieces.Given as goal

abbrev pub invariant-loop-first : goal.invariant-loop-first
invariant-loop-first l =
    slice_cmp piece_order (pieces l.left) (pieces l.right) ≡ slice_cmp piece_order (pieces l.left_rest) (pieces l.right_rest)

abbrev pub decreases-loop-first : goal.decreases-loop-first
decreases-loop-first l = length l.left_rest

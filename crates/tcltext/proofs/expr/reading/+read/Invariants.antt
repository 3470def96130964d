use Rattle.std.proofs.Common.{length, ◌+◌, ◌*◌}
use denote.Text.{Utf8}
use denote.Shadow.{shadow}
use Rattle.tcltext.specs.expr.View.{with_height_view}
use Rattle.tcltext.proofs.expr.Turns.{ChainSoFar}
use Rattle.tcltext.proofs.expr.reading.+read.Given as goal

abbrev pub decreases-read_branches : goal.decreases-read_branches
decreases-read_branches g l = 4 * l.depth

abbrev pub decreases-read_right : goal.decreases-read_right
decreases-read_right g l = 4 * l.depth

abbrev pub decreases-read_enclosed : goal.decreases-read_enclosed
decreases-read_enclosed g l = 4 * l.depth

abbrev pub decreases-read_signed : goal.decreases-read_signed
decreases-read_signed g l = 4 * l.depth

abbrev pub decreases-read_prefix : goal.decreases-read_prefix
decreases-read_prefix g l = 4 * l.depth + 1

abbrev pub decreases-read_chain : goal.decreases-read_chain
decreases-read_chain g l = 4 * l.depth + 2

abbrev pub decreases-read_whole : goal.decreases-read_whole
decreases-read_whole g l = 4 * l.depth + 3

abbrev pub invariant-read_chain-loop-between : goal.invariant-read_chain-loop-between
invariant-read_chain-loop-between g l = shadow (Utf8 l.rest) × ChainSoFar l.depth l.limit l.text (with_height_view (g.S.Source.shown l.source) l.left) l.rest

abbrev pub decreases-read_chain-loop-between : goal.decreases-read_chain-loop-between
decreases-read_chain-loop-between g l = length l.rest

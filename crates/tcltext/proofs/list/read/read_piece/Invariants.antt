use Rattle.std.proofs.Common.{length, string_bytes}
use denote.Text.{Utf8}
use denote.Shadow.{shadow}
use Rattle.tcltext.proofs.list.PieceTurns.{PieceSoFar}
use Rattle.tcltext.proofs.list.read.read_piece.Given as goal

abbrev pub invariant-loop-value : goal.invariant-loop-value
invariant-loop-value l = shadow (Utf8 l.rest) × PieceSoFar l.end l.text (string_bytes l.value) l.rest

abbrev pub decreases-loop-value : goal.decreases-loop-value
decreases-loop-value l = length l.rest

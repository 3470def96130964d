use Rattle.std.proofs.Common.{◌≡◌, ◌≤◌, ◌-◌, ℕ, Option, length, drop}
use Rattle.std.specs.Cmp.Lexicographic.{slice_cmp}
use Rattle.modulename.specs.Versions.{pieces, pieces_after, piece_order}
use Rattle.modulename.proofs.version.common_start.Given as goal

abbrev pub invariant-loop-same : goal.invariant-loop-same
invariant-loop-same l = record {
  started : l.start ≤ l.same;
  within : l.same ≤ length l.left;
  inside : l.same ≤ length l.right;
  start : slice_cmp piece_order (pieces l.left) (pieces l.right) ≡ slice_cmp piece_order (pieces (drop l.start l.left)) (pieces (drop l.start l.right));
  rest : (o : Option ℕ) × (slice_cmp piece_order (pieces l.left) (pieces l.right) ≡ slice_cmp piece_order (pieces_after o (drop l.same l.left)) (pieces_after o (drop l.same l.right)));
}

abbrev pub decreases-loop-same : goal.decreases-loop-same
decreases-loop-same l = length l.left - l.same

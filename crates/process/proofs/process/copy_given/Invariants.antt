use Rattle.std.proofs.Common.{◌-◌, ◌^◌, vec_len}
use Rattle.process.proofs.process.copy_given.Given as goal

abbrev pub invariant-loop-length : goal.invariant-loop-length
invariant-loop-length g l = Unit {0}

-- The room grows, and has fewer than 2^63 bytes.
abbrev pub decreases-loop-length : goal.decreases-loop-length
decreases-loop-length g l = 2 ^ 63 - vec_len l.room

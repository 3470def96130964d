use Rattle.std.proofs.Common.{◌≡◌, ◌≤◌, ◌%◌, length}
use Rattle.envvars.specs.Texts.{Text, slice_texts}
use Rattle.envstate.specs.paths.PathTexts.{paired}
use Rattle.envstate.specs.paths.Tables.{counter_in, overwritten_by}
use Rattle.envstate.proofs.paths.texts.set_counters.Given as goal

-- whole pairs are left, and with them over the counters all are
abbrev pub invariant-loop-rest : goal.invariant-loop-rest
invariant-loop-rest l =
    (length (slice_texts l.rest) % 2 ≡ 0)
    × ((x : Text) → overwritten_by (paired (slice_texts l.rest)) (counter_in l.counters) x ≡ overwritten_by (paired (slice_texts l.fields)) (counter_in l.fn.counters) x)
    × (length l.rest ≤ length l.fields)

abbrev pub decreases-loop-rest : goal.decreases-loop-rest
decreases-loop-rest l = length l.rest

use Rattle.std.proofs.Common.{◌≡◌, drop, Some}
use Rattle.std.specs.Prelude.{if◌then◌else◌}
use Rattle.envvars.specs.Texts.{Text, has, slice_texts}
use Rattle.envstate.specs.paths.Tables.{counter_in, one_for_each}
use Rattle.envstate.proofs.paths.texts.counters_of_one.Given as goal

-- the counters so far, with those of the rest over them
abbrev pub invariant-loop-element : goal.invariant-loop-element
invariant-loop-element l = (x : Text) → (if has x (slice_texts (drop l.element-index l.elements)) then Some 1 else counter_in l.counters x) ≡ one_for_each (slice_texts l.elements) x

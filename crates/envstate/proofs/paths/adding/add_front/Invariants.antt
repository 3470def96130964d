use Rattle.std.proofs.Common.{◌≡◌, ◌++◌, reverse}
use Rattle.std.specs.Iterator.Adapters.{rev_source}
use Rattle.std.specs.Slice.Iter.{iter_rest}
use Rattle.envvars.specs.Texts.{slice_texts}
use Rattle.envstate.specs.paths.Paths.{add_front}
use Rattle.envstate.specs.paths.Tables.{counter_in, state_from_table}
use Rattle.envstate.proofs.paths.PathSteps.{Adds}
use Rattle.envstate.proofs.paths.adding.add_front.Given as goal

-- the table is that of the elements, and with the rest added too, all are
abbrev pub invariant-loop-element : goal.invariant-loop-element
invariant-loop-element l =
    Adds (counter_in l.counters) (reverse (slice_texts l.front.items) ++ slice_texts l.elements)
    × (add_front (state_from_table (reverse (slice_texts l.front.items) ++ slice_texts l.elements) (counter_in l.counters))
    (slice_texts (iter_rest (rev_source l.element-iterator)))
    ≡ add_front (state_from_table (slice_texts l.elements) (counter_in l.fn.counters)) (slice_texts l.more))

use Rattle.std.proofs.Common.{◌≡◌, drop}
use Rattle.envvars.specs.Texts.{slice_texts}
use Rattle.envstate.specs.paths.Paths.{add_back}
use Rattle.envstate.specs.paths.Tables.{counter_in, state_from_table}
use Rattle.envstate.proofs.paths.PathSteps.{Adds}
use Rattle.envstate.proofs.paths.adding.add_back.Given as goal

-- the table is that of the elements, and with the rest added too, all are
abbrev pub invariant-loop-element : goal.invariant-loop-element
invariant-loop-element l =
    Adds (counter_in l.counters) (slice_texts l.elements.items)
    × (add_back (state_from_table (slice_texts l.elements.items) (counter_in l.counters))
    (slice_texts (drop l.element-index l.more)) ≡ add_back
    (state_from_table (slice_texts l.fn.elements.items) (counter_in l.fn.counters)) (slice_texts l.more))

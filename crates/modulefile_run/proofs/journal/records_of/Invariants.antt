use Rattle.std.proofs.Common.{◌≡◌, ◌++◌, map}
use Rattle.std.specs.Vec.Iter.{into_iter_items}
use Rattle.modulefile_run.specs.declared.accepted.AcceptedCommand.{AcceptedCommand}
use Rattle.modulefile_run.proofs.journal.records_of.Given as goal

abbrev pub invariant-loop-entry : goal.invariant-loop-entry
invariant-loop-entry l =
    l.records.items ++ map (λ (entry : AcceptedCommand). entry.recorded) (into_iter_items l.entry-iterator) ≡ map (λ (entry : AcceptedCommand). entry.recorded) l.fn.entries.items

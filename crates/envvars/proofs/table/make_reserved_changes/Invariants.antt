use Rattle.std.proofs.Common.{◌≡◌, ◌≤◌, length, map}
use Rattle.std.specs.Vec.Iter.{into_iter_items}
use Rattle.indexmap.specs.IndexMap.{spare}
use Rattle.envvars.specs.Environment.{Environment}
use Rattle.envvars.specs.Changes.{new_value_of, applied}
use Rattle.envvars.specs.Tables.{written_over}
use Rattle.envvars.proofs.table.make_reserved_changes.Given as goal

-- there is room for the changes that are left, and with them all are made
abbrev pub invariant-loop-change : goal.invariant-loop-change
invariant-loop-change l = record {
  room : length (into_iter_items l.change-iterator) ≤ spare l.table;
  made : (base : Environment) → applied (map new_value_of (into_iter_items l.change-iterator))
      (written_over base l.table.entries) ≡ applied (map new_value_of l.fn.changes.items)
      (written_over base l.fn.table.entries);
}

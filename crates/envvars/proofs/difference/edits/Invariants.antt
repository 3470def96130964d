use Rattle.std.proofs.Common.{◌≡◌, ◌++◌}
use Rattle.envvars.specs.Changes.{new_values_in}
use Rattle.envvars.specs.Tables.{new_values_of}
use Rattle.envvars.proofs.difference.edits.Given as goal

-- the changes so far, and the entries that are left
abbrev pub invariant-loop-name : goal.invariant-loop-name
invariant-loop-name l = new_values_in l.edits ++ new_values_of l.name-iterator ≡ new_values_of l.fn.table.entries

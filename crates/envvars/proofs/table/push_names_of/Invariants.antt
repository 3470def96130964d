use Rattle.std.proofs.Common.{◌≡◌, ◌++◌}
use Rattle.envvars.specs.Texts.{slice_texts}
use Rattle.envvars.specs.Tables.{names_of}
use Rattle.envvars.proofs.table.push_names_of.Given as goal

-- the names so far, and those that are left
abbrev pub invariant-loop-name : goal.invariant-loop-name
invariant-loop-name l = slice_texts l.names.items ++ names_of l.name-iterator ≡ slice_texts l.fn.names.items ++ names_of l.table.entries

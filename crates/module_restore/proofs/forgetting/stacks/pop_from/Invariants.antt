use Rattle.std.proofs.Common.{map, string_bytes, take}
use Rattle.module_restore.specs.forgetting.Views.{ArePoppedFrom}
use Rattle.module_restore.proofs.forgetting.stacks.pop_from.Given as goal

abbrev pub invariant-loop-variable : goal.invariant-loop-variable
invariant-loop-variable l = ArePoppedFrom l.owner (map string_bytes (take l.variable-index l.variables)) l.initial.env l.env

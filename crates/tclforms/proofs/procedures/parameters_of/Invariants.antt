use Rattle.std.proofs.Common.{◌≡◌, map, drop, string_bytes}
use Rattle.tclrules.specs.Rules.{parameters}
use Rattle.tclforms.specs.variables.Views.{parameter_view}
use Rattle.tclforms.specs.Lists.{prefixed}
use Rattle.tclforms.proofs.procedures.parameters_of.Given as goal

abbrev pub invariant-loop-list : goal.invariant-loop-list
invariant-loop-list l = parameters (map string_bytes l.lists) ≡ prefixed (map parameter_view l.parameters.items) (parameters (map string_bytes (drop l.list-index l.lists)))

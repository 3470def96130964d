use Rattle.std.proofs.Common.{◌≡◌, map, length, string_bytes}
use Rattle.tclrules.specs.Rules.{parameter_values}
use Rattle.tclforms.specs.variables.Views.{parameter_view}
use Rattle.tclforms.specs.ArgumentViews.{named_values}
use Rattle.tclforms.specs.Firsts.{AreNamesOf, prefixed_firsts}
use Rattle.tclforms.proofs.calls.parameter_values.Given as goal

abbrev pub invariant-loop-parameters : goal.invariant-loop-parameters
invariant-loop-parameters l = record {
  names : AreNamesOf l.names.keys l.values.items;
  parameter_values : parameter_values l.name (map parameter_view l.fn.parameters) (map string_bytes l.words) ≡
      prefixed_firsts (named_values l.values.items) (parameter_values l.name (map parameter_view l.parameters)
      (map string_bytes l.rest));
}

abbrev pub decreases-loop-parameters : goal.decreases-loop-parameters
decreases-loop-parameters l = length l.parameters

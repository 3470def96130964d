use Rattle.tclforms.proofs.FirstLemmas.{allotted_step, allotted_end}
use Rattle.tclforms.proofs.calls.parameter_values.Goals as goal

pub loop-parameters-preserved : goal.loop-parameters-preserved
loop-parameters-preserved c = record {
  names = c.in_ok-push_first.ensures.names;
  parameter_values = allotted_step _ _ c.loop-parameters.parameters.now c.parameter-item.result _ _ _ _
      c.loop-parameters.invariant.parameter_values c.in-len1-up.len_at_least c.parameter-item.is c.in_ok-bound.ensures
      (rw c.as_str.ensures.value at c.in_ok-push_first.ensures.values);
}

pub returns-then-is_empty : goal.returns-then-is_empty
returns-then-is_empty c = allotted_end _ _ _ _ _ c.loop-parameters.invariant.parameter_values c.in_default.len_below c.if-is_empty.ensures

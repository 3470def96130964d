use Rattle.envstate.proofs.paths.PathSteps.{none_counted}
use Rattle.envstate.proofs.paths.texts.counts_empty_element.Goals as goal

pub returns : goal.returns
returns c = none_counted c.loop-rest.rest.now _ c.in_default.len_below c.loop-rest.invariant

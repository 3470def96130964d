use Rattle.std.proofs.Common.{ap, ◌∙◌}
use Rattle.std.specs.Prelude.{unwrap_or}
use Rattle.envstate.proofs.paths.PathSteps.{counter_raised}
use Rattle.envstate.proofs.paths.adding.add_one.Goals as goal

pub returns-clause-raised : goal.returns-clause-raised
returns-clause-raised c =
    counter_raised c.args.counters.now c.insert.new.self c.args.element.now c.unwrap_or-count.result
    (c.unwrap_or-count.ensures ∙ ap (λ o. unwrap_or o 0) (c.copied.ensures ∙ c.get.ensures.value)) c.in_ok-insert.ensures.updates

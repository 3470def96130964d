use Rattle.std.proofs.Common.{ap, ◌∙◌, ◌-◌, rules}
use Rattle.std.specs.Prelude.{unwrap_or}
use Rattle.envstate.specs.paths.Tables.{counter_in}
use Rattle.envstate.proofs.paths.PathSteps.{counter_dropped, counter_lowered, lowered_same}
use Rattle.envstate.proofs.paths.dropping.drop_one.Goals as goal

pub returns-then-count-le-LAST_COUNT-clause-lowered : goal.returns-then-count-le-LAST_COUNT-clause-lowered
returns-then-count-le-LAST_COUNT-clause-lowered c =
    counter_dropped c.args.counters.now c.swap_remove.new.self c.args.element.now c.unwrap_or-count.result
    (c.unwrap_or-count.ensures ∙ ap (λ o. unwrap_or o 0) (c.copied.ensures ∙ c.get.ensures.value)) c.if-count-le-LAST_COUNT.true c.swap_remove.ensures.updates

pub returns-in-Some-clause-lowered : goal.returns-in-Some-clause-lowered
returns-in-Some-clause-lowered c =
    counter_lowered c.args.counters.now (c.get_mut.follows.lender (c.unwrap_or-count.result - 1)) c.args.element.now c.unwrap_or-count.result
    (c.unwrap_or-count.ensures ∙ ap (λ o. unwrap_or o 0) (c.copied.ensures ∙ c.get.ensures.value)) c.if-count-le-LAST_COUNT.false
    ((c.get_mut.follows.holds (c.unwrap_or-count.result - 1)).3 (search rules))

pub returns-in-Some-clause-one_is_gone : goal.returns-in-Some-clause-one_is_gone
returns-in-Some-clause-one_is_gone c = λ e.
    lowered_same (counter_in c.args.counters.now) (counter_in (c.get_mut.follows.lender (c.unwrap_or-count.result - 1))) c.args.element.now c.unwrap_or-count.result
    (c.unwrap_or-count.ensures ∙ ap (λ o. unwrap_or o 0) (c.copied.ensures ∙ c.get.ensures.value)) c.if-count-le-LAST_COUNT.false (returns-in-Some-clause-lowered c)

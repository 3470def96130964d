use Rattle.std.proofs.Common.{◌∙◌}
use Rattle.envvars.proofs.TextLemmas.{or_left, or_right}
use Rattle.envstate.specs.paths.Tables.{counter_in, state_from_table, kept}
use Rattle.envstate.proofs.paths.PathSteps.{drops_turn, drops_done}
use Rattle.envstate.proofs.paths.dropping.drop_each.Goals as goal

pub loop-element-preserved : goal.loop-element-preserved
loop-element-preserved c = record {
  dropped = drops_turn (counter_in c.loop-element.counters) (counter_in c.drop_one-one_is_gone.new.counters)
      c.args.less.now c.loop-element.element-index _ _ c.loop-element-test.true c.drop_one-one_is_gone.ensures.lowered
      c.loop-element.invariant.dropped;
  one_is_gone = λ e x. c.drop_one-one_is_gone.ensures.one_is_gone
      (or_right c.loop-element.one_is_gone c.drop_one-one_is_gone.result e) x
      ∙ c.loop-element.invariant.one_is_gone (or_left c.loop-element.one_is_gone c.drop_one-one_is_gone.result e) x;
}

pub returns-clause-dropped : goal.returns-clause-dropped
returns-clause-dropped c = λ xs.
    drops_done (state_from_table (kept xs (counter_in c.loop-element.counters)) (counter_in c.loop-element.counters)) _
    c.args.less.now c.loop-element.element-index c.loop-element-test.false (c.loop-element.invariant.dropped xs)

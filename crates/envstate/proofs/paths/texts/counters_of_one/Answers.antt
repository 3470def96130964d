use Rattle.envvars.specs.Texts.{slice_texts}
use Rattle.envstate.specs.paths.Tables.{counter_in, one_for_each}
use Rattle.envstate.proofs.paths.PathSteps.{ones_turn, ones_done, counter_given}
use Rattle.envstate.proofs.paths.texts.counters_of_one.Goals as goal

pub loop-element-preserved : goal.loop-element-preserved
loop-element-preserved c =
    ones_turn (counter_in c.loop-element.counters) (counter_in c.insert.new.self) _ c.args.elements.now c.loop-element.element-index _ c.loop-element-test.true
    (counter_given c.loop-element.counters c.insert.new.self _ 1 c.in_ok-insert.ensures.updates) c.loop-element.invariant

pub returns : goal.returns
returns c = ones_done (counter_in c.loop-element.counters) (one_for_each (slice_texts c.args.elements.now))
    c.args.elements.now c.loop-element.element-index c.loop-element-test.false c.loop-element.invariant

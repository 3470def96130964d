use Rattle.std.proofs.lemmas.Result.{err_from_is_err_and}
use Rattle.envvars.specs.Texts.{slice_texts}
use Rattle.envstate.specs.paths.Tables.{counter_in, state_from_table}
use Rattle.envstate.proofs.paths.PathSteps.{back_turn, back_full, back_done}
use Rattle.envstate.proofs.paths.adding.add_back.Goals as goal

pub returns-in_err-add_one-clause-full : goal.returns-in_err-add_one-clause-full
returns-in_err-add_one-clause-full c =
    let p = err_from_is_err_and c.from_residual.result c.from_residual.ensures.1 in
    rw (p.1, p.2)
    (back_full _ c.args.var.now (counter_in c.loop-element.counters) (slice_texts c.loop-element.elements.items)
    c.args.more.now c.loop-element.element-index _ _ c.loop-element-test.true c.loop-element.invariant
    c.in_err-add_one.ensures.full)

pub loop-element-preserved : goal.loop-element-preserved
loop-element-preserved c =
    back_turn (counter_in c.loop-element.counters) (counter_in c.add_one.new.counters)
    (slice_texts c.loop-element.elements.items) (slice_texts c.add_one.new.added.items) c.args.more.now
    c.loop-element.element-index _ _ c.loop-element-test.true c.loop-element.invariant
    c.in_ok-add_one.ensures.raised c.in_ok-add_one.ensures.added c.in_ok-add_one.ensures.fits

pub returns-clause-ok : goal.returns-clause-ok
returns-clause-ok c =
    back_done (state_from_table (slice_texts c.loop-element.elements.items) (counter_in c.loop-element.counters)) _
    c.args.more.now c.loop-element.element-index c.loop-element-test.false c.loop-element.invariant.1

use Rattle.std.proofs.Common.{reverse, ◌++◌}
use Rattle.std.proofs.lemmas.Option.{MatchOption-at_some}
use Rattle.std.proofs.lemmas.Result.{err_from_is_err_and}
use Rattle.std.specs.Iterator.Adapters.{rev_source}
use Rattle.std.specs.Slice.Iter.{iter_rest}
use Rattle.envvars.specs.Texts.{slice_texts}
use Rattle.envstate.specs.paths.Tables.{counter_in}
use Rattle.envstate.proofs.paths.PathSteps.{front_turn, front_full, front_done}
use Rattle.envstate.proofs.paths.adding.add_front.Goals as goal

pub returns-in_err-add_one-clause-full : goal.returns-in_err-add_one-clause-full
returns-in_err-add_one-clause-full c =
    let p = err_from_is_err_and c.from_residual.result c.from_residual.ensures.1 in
    rw (p.1, p.2)
    (front_full _ c.args.var.now (counter_in c.loop-element.counters) (reverse (slice_texts c.loop-element.front.items) ++ slice_texts c.args.elements.now) _ _ _ _
    (MatchOption-at_some _ _ _ c.in-Some.is c.next.ensures.steps) c.loop-element.invariant c.in_err-add_one.ensures.full)

pub loop-element-preserved : goal.loop-element-preserved
loop-element-preserved c =
    front_turn (counter_in c.loop-element.counters) (counter_in c.add_one.new.counters)
    (slice_texts c.loop-element.front.items) (slice_texts c.add_one.new.added.items) (slice_texts c.args.elements.now)
    _ _ _ _ (MatchOption-at_some _ _ _ c.in-Some.is c.next.ensures.steps) c.loop-element.invariant
    c.in_ok-add_one.ensures.raised c.in_ok-add_one.ensures.added c.in_ok-add_one.ensures.fits

pub returns-clause-ok : goal.returns-clause-ok
returns-clause-ok c =
    let none = rw c.in-None.is at c.next.ensures.steps in
    front_done (counter_in c.loop-element.counters) c.loop-element.front.items c.reverse.new.self.items c.args.elements.now c.extend_from_slice.new.self.items
    (iter_rest (rev_source c.loop-element.element-iterator)) _ none.0
    c.reverse.ensures.items c.in_ok-extend_from_slice.ensures.items c.loop-element.invariant.1

use Rattle.std.proofs.Common.{rules}
use Rattle.envstate.specs.paths.Tables.{counter_in}
use Rattle.envstate.proofs.paths.PathSteps.{counter_given, unnoted, noted}
use Rattle.envstate.proofs.paths.texts.set_counter.Goals as goal

pub returns-in_default : goal.returns-in_default
returns-in_default c = unnoted (counter_in c.args.counters.now) c.args.element.now c.args.number.now c.in_default.ensures

pub returns-in-Some-get_mut : goal.returns-in-Some-get_mut
returns-in-Some-get_mut c =
    noted (counter_in c.args.counters.now) (counter_in (c.get_mut.follows.lender c.in-Some.count)) c.args.element.now
    c.args.number.now c.in-Some.count _ c.in-Some.ensures c.in-Some-get_mut.ensures.value
    (counter_given c.args.counters.now (c.get_mut.follows.lender c.in-Some.count) c.args.element.now c.in-Some.count ((c.get_mut.follows.holds c.in-Some.count).3 (search rules)))

use Rattle.std.proofs.Common.{length, refl}
use Rattle.envstate.specs.paths.Tables.{counter_in}
use Rattle.envstate.proofs.paths.PathSteps.{note_start, notes_turn}
use Rattle.envstate.proofs.paths.texts.set_counters.Goals as goal

pub loop-rest-init : goal.loop-rest-init
loop-rest-init c = note_start (counter_in c.args.counters.now) c.args.fields.now _ _ refl refl

pub loop-rest-preserved : goal.loop-rest-preserved
loop-rest-preserved c =
    notes_turn (counter_in c.loop-rest.counters) (counter_in c.set_counter.new.counters) c.loop-rest.rest.now
    (length c.args.fields.now) _ _ _ c.in-len2-up.len_at_least c.loop-rest.invariant c.set_counter.ensures

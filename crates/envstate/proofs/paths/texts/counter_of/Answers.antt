use Rattle.envstate.proofs.paths.CounterLemmas.{not_begun, parsed, not_parsed}
use Rattle.envstate.proofs.paths.texts.counter_of.Goals as goal

pub returns-then-not-begins_as_counter : goal.returns-then-not-begins_as_counter
returns-then-not-begins_as_counter c = not_begun c.args.text.now c.begins_as_counter.result c.begins_as_counter.ensures c.if-not-begins_as_counter.true

pub returns-in-Ok : goal.returns-in-Ok
returns-in-Ok c = parsed c.args.text.now c.parse.result c.in-Ok.count c.begins_as_counter.result c.parse.ensures.value.0 c.begins_as_counter.ensures c.if-not-begins_as_counter.false c.in-Ok.is

pub returns-in-Err : goal.returns-in-Err
returns-in-Err c = not_parsed c.args.text.now c.parse.result _ c.begins_as_counter.result c.parse.ensures.value.0 c.begins_as_counter.ensures c.if-not-begins_as_counter.false c.in-Err.is

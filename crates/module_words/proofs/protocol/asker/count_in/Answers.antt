use Rattle.envstate.proofs.paths.CounterLemmas.{not_begun, parsed, not_parsed}
use Rattle.module_words.proofs.protocol.asker.count_in.Goals as goal

pub returns-then-not-begins_with_count : goal.returns-then-not-begins_with_count
returns-then-not-begins_with_count c =
    not_begun c.args.text.now c.begins_with_count.result c.begins_with_count.ensures c.if-not-begins_with_count.true

pub returns-in-Ok : goal.returns-in-Ok
returns-in-Ok c = parsed c.args.text.now c.parse.result c.in-Ok.count c.begins_with_count.result c.parse.ensures.value.0 c.begins_with_count.ensures c.if-not-begins_with_count.false c.in-Ok.is

pub returns-in-Err : goal.returns-in-Err
returns-in-Err c = not_parsed c.args.text.now c.parse.result _ c.begins_with_count.result c.parse.ensures.value.0 c.begins_with_count.ensures c.if-not-begins_with_count.false c.in-Err.is

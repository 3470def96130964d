use Rattle.envvars.specs.Texts.{slice_texts}
use Rattle.envstate.specs.paths.Tables.{counter_in}
use Rattle.envstate.proofs.paths.WritingLemmas.{none_repeated, pairs_written}
use Rattle.envstate.proofs.paths.writing.write_counters.Goals as goal

pub returns-then-not-any_is_repeated : goal.returns-then-not-any_is_repeated
returns-then-not-any_is_repeated c =
    none_repeated c.args.counters.now (slice_texts c.args.elements.now) c.is_lone_empty.result c.any_is_repeated.result
    c.any_is_repeated.ensures c.if-not-any_is_repeated.true c.is_lone_empty.ensures c.if-is_lone_empty.false

pub returns : goal.returns
returns c = pairs_written c.counters_text.result (slice_texts c.args.elements.now) (counter_in c.args.counters.now)
    c.is_lone_empty.result c.is_lone_empty.ensures c.if-is_lone_empty.false c.counters_text.ensures

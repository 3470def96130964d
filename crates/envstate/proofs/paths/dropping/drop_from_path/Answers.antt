use Rattle.envvars.specs.Texts.{slice_texts}
use Rattle.envstate.specs.paths.Tables.{counter_in}
use Rattle.envstate.proofs.paths.PathSteps.{taken_out, kept_where_same}
use Rattle.envstate.proofs.paths.dropping.drop_from_path.Goals as goal

pub returns-then-drop_each : goal.returns-then-drop_each
returns-then-drop_each c =
    taken_out (slice_texts c.args.path.now.elements.items) (slice_texts c.keep_counted.new.elements.items)
    (slice_texts c.args.less.now) (counter_in c.args.path.now.counters) (counter_in c.drop_each.new.counters)
    c.requires c.drop_each.ensures.dropped c.keep_counted.ensures

pub returns-else-drop_each : goal.returns-else-drop_each
returns-else-drop_each c =
    let xs = slice_texts c.args.path.now.elements.items in
    taken_out xs xs (slice_texts c.args.less.now) (counter_in c.args.path.now.counters) (counter_in c.drop_each.new.counters) c.requires c.drop_each.ensures.dropped
    (kept_where_same xs (counter_in c.args.path.now.counters) (counter_in c.drop_each.new.counters) c.requires (c.drop_each.ensures.one_is_gone c.if-drop_each.false))

use Rattle.std.specs.Option.{option_map}
use Rattle.envvars.specs.Texts.{slice_texts}
use Rattle.envstate.specs.paths.PathTexts.{paired}
use Rattle.envstate.specs.paths.Tables.{counter_in}
use Rattle.envstate.proofs.paths.PathSteps.{read_state, read_table, small_read}
use Rattle.envstate.proofs.paths.texts.path_of.Goals as goal

pub returns-clause-state : goal.returns-clause-state
returns-clause-state c =
    read_state c.args.delim (option_map (λ t. t.now) c.args.text) c.in_ok-elements.elements.items c.as_slice.result.now (paired (slice_texts c.args.fields.now))
    (counter_in c.in_ok-counters.counters) (counter_in c.set_counters.new.counters) c.in_ok-elements.ensures c.as_slice.ensures.value c.in_ok-counters.ensures c.set_counters.ensures

pub returns-clause-fits : goal.returns-clause-fits
returns-clause-fits c =
    small_read (slice_texts c.in_ok-elements.elements.items) (counter_in c.set_counters.new.counters) c.args.delim
    (option_map (λ t. t.now) c.args.text) (paired (slice_texts c.args.fields.now)) (returns-clause-state c)

pub returns-clause-table : goal.returns-clause-table
returns-clause-table c =
    read_table c.in_ok-elements.elements.items c.as_slice.result.now (paired (slice_texts c.args.fields.now)) (counter_in c.in_ok-counters.counters) (counter_in c.set_counters.new.counters)
    c.as_slice.ensures.value c.in_ok-counters.ensures c.set_counters.ensures

use Rattle.std.proofs.Common.{ap, ◌∙◌}
use Rattle.envvars.specs.Texts.{slice_texts}
use Rattle.envstate.specs.paths.PathTexts.{elements_text, counters_as_text}
use Rattle.envstate.specs.paths.Tables.{counter_in, state_from_table}
use Rattle.envstate.proofs.paths.writing.write_path.Goals as goal

pub returns : goal.returns
returns c = record {
  elements = c.in_ok-elements.ensures ∙ ap (λ xs. elements_text c.args.delim (slice_texts xs)) c.as_slice.ensures.value;
  counters = c.in_ok-counters.ensures ∙ ap (λ xs. counters_as_text (state_from_table (slice_texts xs) (counter_in c.args.path.now.counters))) c.as_slice-2.ensures.value;
}

use Rattle.std.proofs.Common.{Some, ap, sym, ◌∙◌, map, string_bytes}
use Rattle.std.specs.Option.{option_map}
use Rattle.envvars.specs.Texts.{slice_texts}
use Rattle.envstate.specs.paths.PathTexts.{paired}
use Rattle.envstate.specs.paths.Tables.{counter_in, state_from_table}
use Rattle.envstate.proofs.paths.PathSteps.{read_again}
use Rattle.envstate.proofs.paths.PairLemmas.{plain_fields}
use Rattle.envstate.proofs.paths.texts.read_path.Goals as goal

pub returns-then-not-contains-clause-state : goal.returns-then-not-contains-clause-state
returns-then-not-contains-clause-state c =
    read_again c.path_of-then-not-contains.result (λ p. state_from_table (slice_texts p.elements.items)
    (counter_in p.counters)) c.args.delim (option_map (λ t. t.now) c.args.text) (Some c.in-Some.counts.now) _
    (paired (slice_texts c.as_slice.result.now))
    (ap (λ fs. paired (slice_texts fs)) c.as_slice.ensures.value
    ∙ ap paired (c.in_ok-parts.ensures ∙ sym (plain_fields c.in-Some.counts.now c.contains.result
    c.contains.ensures.cases c.if-not-contains.true)))
    (ap (option_map (λ t. t.now)) c.in-Some.is) c.path_of-then-not-contains.ensures.state

pub returns-clause-state : goal.returns-clause-state
returns-clause-state c =
    read_again c.path_of-2.result (λ p. state_from_table (slice_texts p.elements.items) (counter_in p.counters))
    c.args.delim (option_map (λ t. t.now) c.args.text) (Some c.in-Some.counts.now) _
    (paired (slice_texts c.as_slice-3.result.now))
    (ap (λ fs. paired (slice_texts fs)) c.as_slice-3.ensures.value ∙ ap paired (c.in_ok-fields-2.ensures ∙ ap (λ fs. map string_bytes fs) c.as_slice-2.ensures.value ∙ c.in_ok-fields.ensures))
    (ap (option_map (λ t. t.now)) c.in-Some.is) c.path_of-2.ensures.state

use Rattle.std.proofs.Common.{ap, ◌∙◌, string_bytes}
use Rattle.std.specs.Prelude.{unwrap_or}
use Rattle.envstate.specs.paths.Tables.{counter_in, unless_empty}
use Rattle.envstate.proofs.paths.PathSteps.{counter_given}
use Rattle.envstate.proofs.paths.WritingLemmas.{counts_turn, counts_done}
use Rattle.envstate.proofs.paths.writing.counters_text.Goals as goal

pub loop-element-preserved : goal.loop-element-preserved
loop-element-preserved c =
    counts_turn (counter_in c.loop-element.counters) (counter_in c.insert.new.self)
    (unless_empty (string_bytes c.loop-element.text)) (unless_empty (string_bytes c.push_count.new.text))
    c.args.elements.now c.loop-element.element-index _ _ c.unwrap_or-count.result c.loop-element-test.true
    (counter_given c.loop-element.counters c.insert.new.self _ 1 c.in_ok-insert.ensures.updates)
    (c.unwrap_or-count.ensures ∙ ap (λ o. unwrap_or o 0) c.in_ok-insert.ensures.old) c.in_ok-push_count.ensures
    c.loop-element.invariant

pub returns : goal.returns
returns c =
    c.unless_empty.ensures ∙ counts_done (counter_in c.loop-element.counters)
    (unless_empty (string_bytes c.loop-element.text)) c.args.elements.now c.loop-element.element-index _
    c.loop-element-test.false c.loop-element.invariant

use Rattle.std.proofs.Common.{sym, ap, ◌∙◌}
use Rattle.std.specs.List.{list_all}
use Rattle.modulefile.specs.RecordViews.{record_view}
use Rattle.modulefile_run.specs.Running.{ran_view}
use Rattle.reversal.specs.VariableUses.{is_reversible}
use Rattle.requests.proofs.ListLemmas.{all_seen}
use Rattle.modules.proofs.VerdictLemmas.{plain_by, asked_by, one_way_by}
use Rattle.modules.proofs.judged.verdict_on.Goals as goal

pub returns-then-has_asked : goal.returns-then-has_asked
returns-then-has_asked c = λ e. asked_by (ran_view c.args.ran.now e) (sym c.has_asked.ensures ∙ c.if-has_asked.true)

pub returns-then-are_reversible : goal.returns-then-are_reversible
returns-then-are_reversible c = λ e.
    plain_by (ran_view c.args.ran.now e) (sym c.has_asked.ensures ∙ c.if-has_asked.false)
    (sym (all_seen is_reversible record_view c.args.ran.now.records.items)
    ∙ (ap (list_all (λ r. is_reversible (record_view r))) (sym c.as_slice.ensures.value)
    ∙ (sym c.are_reversible.ensures ∙ c.if-are_reversible.true)))

pub returns-else-are_reversible : goal.returns-else-are_reversible
returns-else-are_reversible c = λ e.
    one_way_by (ran_view c.args.ran.now e) (sym c.has_asked.ensures ∙ c.if-has_asked.false)
    (sym (all_seen is_reversible record_view c.args.ran.now.records.items)
    ∙ (ap (list_all (λ r. is_reversible (record_view r))) (sym c.as_slice.ensures.value)
    ∙ (sym c.are_reversible.ensures ∙ c.if-are_reversible.false)))

use Rattle.std.proofs.Common.{sym, ◌∙◌, map}
use Rattle.modulefile.specs.RecordViews.{record_view}
use Rattle.modulefile_run.specs.Questions.{question_view}
use Rattle.audit_laws.specs.determinism.StableInput.{is_stable_input}
use Rattle.audit_laws.proofs.determinism.Seen.{all_more, all_seen, fails_here, none_fails}
use Rattle.audit_laws.proofs.determinism.stable_input.are_stable_inputs.Goals as goal

pub loop-question-preserved : goal.loop-question-preserved
loop-question-preserved c =
    let same = c.deref-question-items.ensures.value in
    let rested = sym c.in_ok-is_stable_input.ensures ∙ c.if-not-branch.false in
    all_more (λ q. is_stable_input (map record_view c.args.ran.now.records.items) (question_view q)) c.args.ran.now.asked.items c.loop-question.question-index c.question-item.result
    (rw same at c.loop-question-test.true) (rw same at c.question-item.is) c.loop-question.invariant (rw c.as_slice.ensures.value at rested)

pub returns-then-not-branch : goal.returns-then-not-branch
returns-then-not-branch c =
    let same = c.deref-question-items.ensures.value in
    let fails = sym c.in_ok-is_stable_input.ensures ∙ c.if-not-branch.true in
    let rs = map record_view c.args.ran.now.records.items in
    sym (sym (all_seen (is_stable_input rs) question_view c.args.ran.now.asked.items)
    ∙ fails_here (λ q. is_stable_input rs (question_view q)) c.args.ran.now.asked.items c.loop-question.question-index c.question-item.result
    (rw same at c.loop-question-test.true) (rw same at c.question-item.is) (rw c.as_slice.ensures.value at fails))

pub returns : goal.returns
returns c =
    let same = c.deref-question-items.ensures.value in
    let rs = map record_view c.args.ran.now.records.items in
    sym (sym (all_seen (is_stable_input rs) question_view c.args.ran.now.asked.items)
    ∙ none_fails (λ q. is_stable_input rs (question_view q)) c.args.ran.now.asked.items c.loop-question.question-index
    (rw same at c.loop-question-test.false) c.loop-question.invariant)

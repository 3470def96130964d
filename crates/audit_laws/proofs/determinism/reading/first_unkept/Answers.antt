use Rattle.std.proofs.Common.{sym, ◌∙◌, map}
use Rattle.modulefile.specs.RecordViews.{record_view}
use Rattle.modulefile_run.specs.Questions.{question_view}
use Rattle.audit_laws.specs.determinism.Contexts.{has_stable_answer}
use Rattle.audit_laws.proofs.determinism.Seen.{first_place, no_place, all_more}
use Rattle.audit_laws.proofs.determinism.reading.first_unkept.Goals as goal

pub loop-place-preserved : goal.loop-place-preserved
loop-place-preserved c =
    let same = c.deref-question-items.ensures.value in
    let kept = sym c.in_ok-has_stable_answer.ensures ∙ c.if-not-branch.false in
    all_more (λ q. has_stable_answer c.args.alike (map record_view c.args.ran.now.records.items) (question_view q)) c.args.ran.now.asked.items c.loop-place.place c.question-item.result
    (rw same at c.loop-place-test.true) (rw same at c.question-item.is) c.loop-place.invariant (rw c.as_slice.ensures.value at kept)

pub returns-then-not-branch : goal.returns-then-not-branch
returns-then-not-branch c =
    let same = c.deref-question-items.ensures.value in
    let unkept = sym c.in_ok-has_stable_answer.ensures ∙ c.if-not-branch.true in
    sym (first_place (λ q. has_stable_answer c.args.alike (map record_view c.args.ran.now.records.items) (question_view q)) c.args.ran.now.asked.items c.loop-place.place c.question-item.result
    (rw same at c.loop-place-test.true) c.loop-place.invariant (rw same at c.question-item.is) (rw c.as_slice.ensures.value at unkept))

pub returns : goal.returns
returns c =
    let same = c.deref-question-items.ensures.value in
    sym (no_place (λ q. has_stable_answer c.args.alike (map record_view c.args.ran.now.records.items) (question_view q)) c.args.ran.now.asked.items c.loop-place.place
    (rw same at c.loop-place-test.false) c.loop-place.invariant)

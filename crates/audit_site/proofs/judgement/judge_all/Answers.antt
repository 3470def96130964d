use Rattle.std.proofs.Common.{◌∷◌, [], ◌++◌, map, string_bytes, List, append_assoc, ap, ◌∙◌, sym, refl}
use Rattle.std.specs.Vec.Iter.{into_iter_items}
use Rattle.audit_certificate.specs.CandidateViews.{candidate_view}
use Rattle.audit_site.specs.declared.walk.Evaluation.{Evaluation}
use Rattle.audit_site.proofs.JudgedLemmas.{judged_more}
use Rattle.audit_site.proofs.judgement.judge_all.Goals as goal

pub loop-evaluation-init : goal.loop-evaluation-init
loop-evaluation-init c = (
  [],
  c.into_iter-evaluation-iterator.ensures.into_iter_gives.0,
  record { shown = []; evaluated = refl; right = tt; kept = c.new.ensures.items; steps = ap (map candidate_view) c.new-2.ensures.items; others = ap (map candidate_view) c.new-3.ensures.items },
)

pub loop-evaluation-preserved : goal.loop-evaluation-preserved
loop-evaluation-preserved c =
    let i = c.loop-evaluation.invariant in
    let adds = c.in_ok-judge_next.ensures in
    let e = c.in-Some.evaluation in (
      i.0 ++ e ∷ [],
      append_assoc i.0 (e ∷ []) (into_iter_items c.next.new.self) ∙ (ap (λ (l : List Evaluation). i.0 ++ l) (sym c.in-Some.ensures.steps.0) ∙ i.1),
      judged_more (map string_bytes c.args.without.now) i.0 c.loop-evaluation.judgement.judged.items _ (map candidate_view c.loop-evaluation.judgement.consistent.items) _
          (map candidate_view c.loop-evaluation.judgement.aside.items) _ e adds.finding i.2 adds.right adds.kept adds.steps adds.others,
    )

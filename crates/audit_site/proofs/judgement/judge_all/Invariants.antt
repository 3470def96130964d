use Rattle.std.proofs.Common.{◌≡◌, ◌++◌, map, string_bytes, List}
use Rattle.std.specs.Vec.Iter.{into_iter_items}
use Rattle.audit_certificate.specs.CandidateViews.{candidate_view}
use Rattle.audit_site.specs.Findings.{AreJudged}
use Rattle.audit_site.specs.declared.walk.Evaluation.{Evaluation}
use Rattle.audit_site.proofs.judgement.judge_all.Given as goal

-- those so far are judged, and the rest are left
abbrev pub invariant-loop-evaluation : goal.invariant-loop-evaluation
invariant-loop-evaluation l =
    (done : List Evaluation) × (done ++ into_iter_items l.evaluation-iterator ≡ l.fn.evaluations.items)
    × AreJudged (map string_bytes l.without) done l.judgement.judged.items (map candidate_view l.judgement.consistent.items) (map candidate_view l.judgement.aside.items)

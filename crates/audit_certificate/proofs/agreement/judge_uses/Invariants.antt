use Rattle.std.proofs.Common.{map, take}
use Rattle.audit_certificate.specs.Disagreements.{AreDisagreements}
use Rattle.audit_certificate.specs.UseViews.{used_view}
use Rattle.audit_certificate.specs.DisagreementViews.{disagreement_view}
use Rattle.audit_certificate.proofs.Reported.{Reports}
use Rattle.audit_certificate.proofs.agreement.judge_uses.Given as goal

abbrev pub invariant-loop-wanted : goal.invariant-loop-wanted
invariant-loop-wanted l = record {
  reports : Reports l.env (map used_view (take l.wanted-index l.certificate)) (map disagreement_view l.found.items);
  order : AreDisagreements (map used_view (take l.wanted-index l.certificate)) l.env (map disagreement_view l.found.items);
}

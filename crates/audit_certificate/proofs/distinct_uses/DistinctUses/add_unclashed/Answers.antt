use Rattle.std.proofs.Common.{List, map, sym, ap, ◌∙◌, subst, append-nil}
use Rattle.std.proofs.lemmas.Result.{on_ok_weaker}
use Rattle.indexmap.specs.IndexSet.{insert_all}
use Rattle.reversal.specs.VariableUses.{UsedVariable}
use Rattle.audit_certificate.specs.Candidates.{uses_of, uses_of_all}
use Rattle.audit_certificate.specs.UseViews.{used_view}
use Rattle.audit_certificate.specs.ClashAnswers.{without_clash}
use Rattle.audit_certificate.specs.EachOnce.{same_used}
use Rattle.audit_certificate.specs.UseKeys.{HasUses}
use Rattle.audit_certificate.specs.UsingModules.{candidate_in}
use Rattle.audit_certificate.proofs.OnceLemmas.{inserted_again}
use Rattle.audit_certificate.proofs.distinct_uses.DistinctUses.add_unclashed.Goals as goal

pub returns-in-None : goal.returns-in-None
returns-in-None c =
    let m = candidate_in c.args.candidate.now in
    on_ok_weaker c.add_all.result
    (λ (h : (ps : List UsedVariable) → HasUses c.args.self.now ps → HasUses c.add_all.new.self (insert_all same_used ps (map used_view c.as_slice.result.now))). λ ps have.
    subst (HasUses c.add_all.new.self)
    (ap (λ l. insert_all same_used ps (map used_view l)) c.as_slice.ensures.value
    ∙ (ap (insert_all same_used ps) c.args.candidate.now.exact
    ∙ (inserted_again ps (uses_of m)
    ∙ (ap (insert_all same_used ps) (sym (append-nil (uses_of m)))
    ∙ ap (λ answer. insert_all same_used ps (uses_of_all (without_clash m answer))) (sym c.in-None.is)))))
    (h ps have))
    c.add_all.ensures

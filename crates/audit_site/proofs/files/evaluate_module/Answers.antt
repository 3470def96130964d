use Rattle.std.proofs.Common.{◌≡◌, ◌<◌, ℕ, List, Result, sym, ◌∙◌, subst, string_bytes}
use Rattle.std.proofs.lemmas.Result.{err_from_is_err_and}
use Rattle.envvars.specs.Texts.{Text}
use Rattle.filetree.specs.Agreement.{FailsAt}
use Rattle.modules.specs.Answers.{is_failure}
use Rattle.modules.specs.declared.refusal.Refusal.{Refusal}
use Rattle.audit_laws.specs.site.Sites.{EvaluatesTo, site_of, module_below}
use Rattle.audit_site.specs.WalkParts.{ComesToOverTree, IsEvaluationWith}
use Rattle.audit_site.specs.declared.scripts.FileEvaluation.{FileEvaluation}
use Rattle.audit_site.proofs.FailureLemmas.{transient_failed, kept_unfailed}
use Rattle.audit_site.proofs.OutcomeLemmas.{is_evaluation}
use Rattle.audit_site.proofs.files.evaluate_module.Goals as goal

pub returns-clause-evaluated : goal.returns-clause-evaluated
returns-clause-evaluated g c =
    let a = c.args.settings in
    let dir = c.args.dir.now in
    let name = c.args.name.now in
    let agrees = g.T.Tree.agrees c.evaluate_file.new.tree in
    let failed = g.T.Tree.failures c.args.tree.now < g.T.Tree.failures c.evaluate_file.new.tree in
    let here = subst (λ (path : Text). ComesToOverTree agrees failed c.evaluate_file.result
    (λ files listings. EvaluatesTo (site_of a.limits a.env.now files listings)
    (record { name = name; path = path })))
    (c.as_str.ensures.value ∙ c.in_ok-path.ensures) c.evaluate_file.ensures.over_tree in
    let comes = subst (λ (o : Result FileEvaluation Refusal). ComesToOverTree agrees failed o (λ files listings. EvaluatesTo (site_of a.limits a.env.now files listings) (module_below dir name)))
    (sym c.in_ok-outcome.ensures.same) here in
    let with_name = subst (λ (n : Text). IsEvaluationWith n (string_bytes c.in_ok-path.path) c.in_ok-outcome.outcome c.evaluation_of.result) c.in_ok-full_name.ensures.ok c.evaluation_of.ensures in
    let with_path = subst (λ (p : Text). IsEvaluationWith name p c.in_ok-outcome.outcome c.evaluation_of.result) c.in_ok-path.ensures with_name in
    is_evaluation agrees failed (λ files listings. EvaluatesTo (site_of a.limits a.env.now files listings) (module_below dir name)) (module_below dir name)
    c.in_ok-outcome.outcome c.evaluation_of.result comes c.in_ok-outcome.ensures.kept with_path

pub returns-in_err-outcome-clause-failed : goal.returns-in_err-outcome-clause-failed
returns-in_err-outcome-clause-failed g c =
    let p = err_from_is_err_and c.from_residual-in_err-outcome.result c.from_residual-in_err-outcome.ensures.1 in
    let failed = rw (c.as_str.ensures.value ∙ c.in_ok-path.ensures) at c.evaluate_file.ensures.failed in
    rw (p.1, p.2) (transient_failed c.evaluate_file.result c.in_err-outcome.field-0.0 (g.T.Tree.failed c.args.tree.now) (g.T.Tree.failed c.evaluate_file.new.tree)
    (λ at. at ≡ (module_below c.args.dir.now c.args.name.now).path) c.in_err-outcome.ensures.transient_failure.0 failed)

pub returns-clause-failed : goal.returns-clause-failed
returns-clause-failed g c =
    let before = g.T.Tree.failed c.args.tree.now in
    let now = g.T.Tree.failed c.evaluate_file.new.tree in
    let Here : List ℕ → Type 0 = λ at. at ≡ c.as_str.result.now in
    kept_unfailed c.in_ok-outcome.outcome before now Here c.in_ok-outcome.ensures.kept
    (subst (λ (o : Result FileEvaluation Refusal). FailsAt is_failure before now o Here) (sym c.in_ok-outcome.ensures.same) c.evaluate_file.ensures.failed)

use Rattle.std.proofs.Common.{◌≡◌, refl, ap, ◌∙◌}
use Rattle.std.specs.Prelude.{is_none}
use Rattle.std.proofs.lemmas.Result.{err_from_is_err_and}
use Rattle.filetree.specs.Agreement.{is_device}
use Rattle.filetree.proofs.FailedPaths.{fails_then}
use Rattle.modules.specs.Answers as steps
use Rattle.modules.specs.Answers.{refused_read}
use Rattle.modules.proofs.FailureLemmas.{read_failure}
use Rattle.audit_site.proofs.MissingLemmas.{none_listed}
use Rattle.audit_site.proofs.missing.is_missing.Goals as goal

pub returns-in_err-names-clause-failed : goal.returns-in_err-names-clause-failed
returns-in_err-names-clause-failed g c =
    let fault = c.in_err-names.field-0.0 in
    let p = err_from_is_err_and c.from_residual.result c.from_residual.ensures.1 in
    rw (p.1, p.2) (fails_then (is_device fault) (steps.is_failure (refused_read fault)) (g.T.Tree.failed c.args.tree.now) (g.T.Tree.failed c.args.tree.now) (g.T.Tree.failed c.entries.new.self)
    (λ at. at ≡ c.args.dir.now) (λ at. at ≡ c.args.dir.now) refl (read_failure fault) (λ at e. e) c.in_err-names.ensures.failed)

pub returns-clause-answer : goal.returns-clause-answer
returns-clause-answer g c = λ files listings k.
    ap is_none (c.in_ok-names.ensures.answer files listings k) ∙ none_listed c.in_ok-names.names c.is_none.result c.is_none.ensures

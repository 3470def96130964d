use Rattle.std.proofs.Common.{sym, subst}
use Rattle.modules.specs.Answers.{cause_of}
use Rattle.modules.specs.declared.refusal.Refusal.{Refusal}
use Rattle.requests.specs.RequestViews.{action_view}
use Rattle.module_explain.specs.Advised.{IsAdvised}
use Rattle.module_explain.specs.Views.{IfBecause}
use Rattle.module_explain.proofs.AdviceLemmas.{of_file_stop}
use Rattle.module_explain.proofs.advice.advice_for.Goals as goal

pub returns-in_ok-for_fault-in-Run-clause-fits : goal.returns-in_ok-for_fault-in-Run-clause-fits
returns-in_ok-for_fault-in-Run-clause-fits g c =
    let o = c.in_ok-for_fault-in-Run.field-0 in
    let refused = c.args.refused in
    subst (λ (r : Refusal). IfBecause (cause_of r) (λ reason.
    IsAdvised (g.T.Tree.agrees c.args.tree.now) refused.limits refused.request.now.shell refused.env.now (action_view refused.request.now.action) reason o)) (sym c.in-Run.is)
    (of_file_stop c.in-Run.file (λ reason.
    IsAdvised (g.T.Tree.agrees c.args.tree.now) refused.limits refused.request.now.shell refused.env.now (action_view refused.request.now.action) reason o) c.in_ok-for_fault-in-Run.ensures.fits)

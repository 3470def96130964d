use Rattle.std.proofs.Common.{subst}
use Rattle.audit_laws.specs.determinism.Contexts.{EvaluationContext}
use Rattle.audit_site.specs.WalkParts.{site_context, ComesTo, ScriptRuns}
use Rattle.audit_site.proofs.scripts.run_first.Goals as goal

pub returns : goal.returns
returns c =
    let a = c.args.settings in
    let s = c.args.script in
    subst (λ (w : EvaluationContext). ComesTo c.run_script.result (ScriptRuns a.limits (site_context w s.name.now s.path.now a.env.now) s.text.now))
    c.first_context-way.ensures c.run_script.ensures

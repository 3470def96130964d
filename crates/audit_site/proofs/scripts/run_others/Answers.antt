use Rattle.std.proofs.Common.{map, take_all, List, refl, subst}
use Rattle.envvars.specs.Texts.{texts_in}
use Rattle.audit_laws.specs.determinism.ContextViews.{context_view}
use Rattle.audit_laws.specs.declared.determinism.contexts.EvaluationContext.{EvaluationContext}
use Rattle.audit_site.specs.WalkParts.{site_context, ShowsAll}
use Rattle.audit_site.proofs.ScriptLemmas.{shows_more}
use Rattle.audit_site.proofs.scripts.run_others.Goals as goal

pub loop-way-preserved : goal.loop-way-preserved
loop-way-preserved c =
    let a = c.args.settings in
    let s = c.args.script in
    shows_more a.limits (λ w. site_context w s.name.now s.path.now a.env.now) s.text.now c.args.first.now c.args.ways.now c.loop-way.way-index c.way-item.result
    (texts_in c.args.reads.now) (texts_in c.loop-way.reads) (texts_in c.run_other.new.reads) c.loop-way.alike c.in_ok-is_alike.is_alike _
    c.loop-way-test.true c.way-item.is c.loop-way.invariant c.in_ok-is_alike.ensures.shows refl

pub returns-clause-shows : goal.returns-clause-shows
returns-clause-shows c =
    let a = c.args.settings in
    let s = c.args.script in
    subst (λ (ws : List EvaluationContext). ShowsAll a.limits (λ w. site_context w s.name.now s.path.now a.env.now) s.text.now c.args.first.now (map context_view ws)
    (texts_in c.args.reads.now) (texts_in c.loop-way.reads) c.loop-way.alike)
    (take_all c.loop-way.way-index c.args.ways.now c.loop-way-test.false) c.loop-way.invariant

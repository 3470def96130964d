use Rattle.std.proofs.Common.{sym, ◌∙◌}
use Rattle.envvars.specs.Texts.{texts_in}
use Rattle.audit_laws.specs.determinism.ContextViews.{context_view}
use Rattle.audit_site.specs.WalkParts.{site_context}
use Rattle.audit_site.proofs.ScriptLemmas.{shows_ok, shows_err}
use Rattle.audit_site.proofs.scripts.run_other.Goals as goal

pub returns-in-Ok-clause-shows : goal.returns-in-Ok-clause-shows
returns-in-Ok-clause-shows c =
    let a = c.args.settings in
    let s = c.args.script in
    shows_ok a.limits (λ w. site_context w s.name.now s.path.now a.env.now) s.text.now c.args.first.now (context_view c.args.way.now)
    (texts_in c.args.reads.now) (texts_in c.push_reads.new.reads) c.in_ok-is_run_equivalent-in-Ok.field-0 c.run_script.result c.in-Ok.ran
    c.run_script.ensures (sym c.in_ok-ran.ensures.same ∙ c.in-Ok.is) c.in_ok-push_reads-in-Ok.ensures c.in_ok-is_run_equivalent-in-Ok.ensures

pub returns-clause-shows : goal.returns-clause-shows
returns-clause-shows c =
    let a = c.args.settings in
    let s = c.args.script in
    shows_err a.limits (λ w. site_context w s.name.now s.path.now a.env.now) s.text.now c.args.first.now (context_view c.args.way.now)
    (texts_in c.args.reads.now) c.run_script.result c.in-Err.field-0 c.run_script.ensures (sym c.in_ok-ran.ensures.same ∙ c.in-Err.is) (rw c.in-Err.is at c.in_ok-ran.ensures.kept)

use Rattle.std.proofs.Common.{map, take}
use Rattle.envvars.specs.Texts.{texts_in}
use Rattle.audit_laws.specs.determinism.ContextViews.{context_view}
use Rattle.audit_site.specs.WalkParts.{site_context, ShowsAll}
use Rattle.audit_site.proofs.scripts.run_others.Given as goal

abbrev pub invariant-loop-way : goal.invariant-loop-way
invariant-loop-way l =
    ShowsAll l.settings.limits (λ w. site_context w l.script.name.now l.script.path.now l.settings.env.now)
    l.script.text.now l.first (map context_view (take l.way-index l.ways)) (texts_in l.initial.reads) (texts_in l.reads) l.alike

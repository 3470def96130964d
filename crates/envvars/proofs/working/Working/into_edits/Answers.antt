use Rattle.std.proofs.Common.{ap, sym, ◌∙◌}
use Rattle.envvars.specs.Changes.{applied, new_values_in}
use Rattle.envvars.specs.Edited.{Edited}
use Rattle.envvars.proofs.DifferenceLemmas.{applied-entries}
use Rattle.envvars.proofs.working.Working.into_edits.Goals as goal

pub returns-clause-ok : goal.returns-clause-ok
returns-clause-ok g c =
    let old = g.B.Vars.vars c.self.inside.old.now in
    ap (applied (new_values_in c.in_ok-edits.field-0)) (sym (ap (λ (e : Edited). e.old) c.self.view_is)) ∙ ap (λ cs. applied cs old) c.in_ok-edits.ensures.edits
    ∙ applied-entries old c.self.inside.touched.entries c.in_ok-edits.ensures.distinct ∙ ap (λ (e : Edited). e.new) c.self.view_is

use Rattle.std.proofs.Common.{◌≡◌, Ok, map, ap, sym, subst, ◌∙◌}
use Rattle.envvars.specs.Changes.{applied, new_values_in}
use Rattle.modulefile.specs.Effects.{effects}
use Rattle.modulefile.specs.RecordViews.{mode_view, record_view}
use Rattle.modulefile.specs.Answers.{records_in}
use Rattle.modulefile_run.specs.Journals.{JournalState}
use Rattle.modulefile_run.proofs.JournalLemmas.{records_kept, made_by}
use Rattle.modulefile_run.proofs.journal.Journal.finish.Goals as goal

pub returns-clause-records : goal.returns-clause-records
returns-clause-records g c =
    ap (λ (s : JournalState). records_in s.words) (sym c.self.view_is) ∙ c.self.invariant.0
    ∙ ap (λ rs. Ok rs) (records_kept c.self.inside.entries.items c.in_ok-records.records.items c.in_ok-records.ensures)

pub returns-clause-changes : goal.returns-clause-changes
returns-clause-changes g c =
    subst (λ (s : JournalState). effects (mode_view s.mode) s.module_name
    (map record_view c.in_ok-records.records.items) s.before ≡ Ok
    (applied (new_values_in c.in_ok-changes.changes) s.before)) c.self.view_is
    (made_by c.self.inside.mode c.self.inside.module_name.now c.self.inside.working.old c.self.inside.working.new
    c.self.inside.entries.items c.in_ok-records.records.items (new_values_in c.in_ok-changes.changes)
    c.self.invariant c.in_ok-records.ensures c.in_ok-changes.ensures.ok)

use Rattle.std.proofs.Common.{◌≡◌, IfOk, string_bytes, ap, sym, subst, ◌∙◌}
use Rattle.std.specs.Option.{option_map}
use Rattle.envvars.specs.Environment.{Environment, lookup}
use Rattle.envvars.specs.Edited.{Edited}
use Rattle.modulefile.specs.RecordViews.{mode_view}
use Rattle.modulefile_run.specs.Journals.{environment_so_far, journal_state, words_of, IsJournal}
use Rattle.modulefile_run.proofs.JournalLemmas.{environment_recorded}
use Rattle.modulefile_run.proofs.journal.Journal.value.Goals as goal

pub returns-clause-value : goal.returns-clause-value
returns-clause-value g c =
    subst (λ (e : Environment). IfOk c.value.result (λ v. option_map string_bytes v ≡ lookup e c.args.name.now))
    (sym (environment_recorded c.self.inside.mode c.self.inside.module_name.now c.self.inside.working.old
    c.self.inside.working.new c.self.inside.entries.items c.self.invariant) ∙ ap environment_so_far c.self.view_is)
    c.value.ensures.value

pub returns-clause-same : goal.returns-clause-same
returns-clause-same g c =
    ap (λ (w : Edited). journal_state c.self.inside.mode c.self.inside.module_name.now w.old
    (words_of c.self.inside.entries.items)) c.value.ensures.same
    ∙ c.self.view_is

pub invariant_of-self : goal.invariant_of-self
invariant_of-self g c =
    subst (λ (w : Edited). IsJournal (mode_view c.self.inside.mode) c.self.inside.module_name.now w.old w.new
    c.self.inside.entries.items) (sym c.value.ensures.same) c.self.invariant

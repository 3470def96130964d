use Rattle.std.proofs.Common.{List, sym, ap, ◌∙◌, subst}
use Rattle.envvars.specs.Texts.{Text}
use Rattle.envvars.specs.Environment.{Environment}
use Rattle.modulefile.specs.Calls.{call_of}
use Rattle.modulefile.specs.RecordViews.{mode_view, record_view}
use Rattle.modulefile_run.specs.declared.accepted.AcceptedCommand.{AcceptedCommand}
use Rattle.modulefile_run.specs.Journals.{JournalState, journal_state, words_in, words_of, IsJournal, AddsCommand}
use Rattle.modulefile_run.proofs.JournalLemmas.{kept_by, noted_by}
use Rattle.modulefile_run.proofs.journal.Journal.add_command.Goals as goal

pub invariant_of-self : goal.invariant_of-self
invariant_of-self g c =
    let entry : AcceptedCommand = record { words = c.remembered-words.result; recorded = c.args.recorded } in
    kept_by c.add_entry.result (mode_view c.self.inside.mode) c.self.inside.module_name.now c.add_entry.new.working.old
    c.self.inside.working.new c.add_entry.new.working.new c.self.inside.entries.items c.add_entry.new.entries.items
    entry
    c.add_entry.ensures.ok c.add_entry.ensures.err c.add_entry.ensures.edits (ap call_of c.remembered-words.ensures ∙ c.requires)
    (subst (λ (e : Environment). IsJournal (mode_view c.self.inside.mode) c.self.inside.module_name.now e
    c.self.inside.working.new c.self.inside.entries.items) (sym c.add_entry.ensures.base) c.self.invariant)

pub returns : goal.returns
returns g c =
    let entry : AcceptedCommand = record { words = c.remembered-words.result; recorded = c.args.recorded } in
    subst (λ (ws : List Text). AddsCommand c.add_entry.result ws (record_view c.args.recorded) c.args.self.now
    (journal_state c.self.inside.mode c.self.inside.module_name.now c.add_entry.new.working.old
    (words_of c.add_entry.new.entries.items))) c.remembered-words.ensures
    (subst (λ (s : JournalState). AddsCommand c.add_entry.result (words_in c.remembered-words.result)
    (record_view c.args.recorded) s (journal_state c.self.inside.mode c.self.inside.module_name.now
    c.add_entry.new.working.old (words_of c.add_entry.new.entries.items))) c.self.view_is
    (subst (λ (e : Environment). AddsCommand c.add_entry.result (words_in c.remembered-words.result)
    (record_view c.args.recorded) (journal_state c.self.inside.mode c.self.inside.module_name.now
    c.self.inside.working.old (words_of c.self.inside.entries.items))
    (journal_state c.self.inside.mode c.self.inside.module_name.now e (words_of c.add_entry.new.entries.items)))
    (sym c.add_entry.ensures.base)
    (noted_by c.add_entry.result c.self.inside.mode c.self.inside.module_name.now c.self.inside.working.old
    c.self.inside.working.new c.add_entry.new.working.new c.self.inside.entries.items c.add_entry.new.entries.items
    entry
    c.add_entry.ensures.ok c.add_entry.ensures.err c.add_entry.ensures.edits c.self.invariant)))

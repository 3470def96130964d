use Rattle.std.proofs.Common.{ap, ◌∙◌, map, string_bytes, sym}
use Rattle.envstate.specs.loaded_list.Loaded.{names_of, names_text, files_text, conflicts_text, prereqs_text}
use Rattle.envstate.specs.loaded_list.LoadedEntries.{entry_view}
use Rattle.envstate.proofs.loaded_list.ShortenedLemmas.{names_but_last, popped}
use Rattle.envstate.proofs.loaded_list.written_list.LoadedList.without_last.Goals as goal

pub invariant_of-list-clause-named : goal.invariant_of-list-clause-named
invariant_of-list-clause-named c =
    ap (map string_bytes) (popped c.args.self.names c.pop-2.new.self c.pop-2.ensures.rest) ∙ names_but_last c.args.self.names.items c.args.self.entries.items c.args.self.named
    ∙ ap (λ xs. names_of (map entry_view xs)) (sym (popped c.args.self.entries c.pop.new.self c.pop.ensures.rest))

pub invariant_of-list-clause-has_names : goal.invariant_of-list-clause-has_names
invariant_of-list-clause-has_names c = λ is_written.
    c.requires.shortened.names_left ∙ ap (λ xs. names_text (map entry_view xs)) (sym (popped c.args.self.entries c.pop.new.self c.pop.ensures.rest))

pub invariant_of-list-clause-has_files : goal.invariant_of-list-clause-has_files
invariant_of-list-clause-has_files c = λ is_written.
    c.requires.shortened.files_left ∙ ap (λ xs. files_text (map entry_view xs)) (sym (popped c.args.self.entries c.pop.new.self c.pop.ensures.rest))

pub invariant_of-list-clause-has_conflicts : goal.invariant_of-list-clause-has_conflicts
invariant_of-list-clause-has_conflicts c = λ is_written.
    c.args.self.has_conflicts is_written ∙ sym c.requires.shortened.conflicts_stay
    ∙ ap (λ xs. conflicts_text (map entry_view xs)) (sym (popped c.args.self.entries c.pop.new.self c.pop.ensures.rest))

pub invariant_of-list-clause-has_prereqs : goal.invariant_of-list-clause-has_prereqs
invariant_of-list-clause-has_prereqs c = λ is_written.
    c.args.self.has_prereqs is_written ∙ sym c.requires.shortened.prereqs_stay
    ∙ ap (λ xs. prereqs_text (map entry_view xs)) (sym (popped c.args.self.entries c.pop.new.self c.pop.ensures.rest))

pub returns : goal.returns
returns c = ap (map entry_view) (popped c.args.self.entries c.pop.new.self c.pop.ensures.rest) ∙ c.requires.shortened.without

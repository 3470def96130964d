use Rattle.std.proofs.Common.{ap, ◌∙◌, map, string_bytes}
use Rattle.std.specs.Option.{option_map}
use Rattle.envvars.specs.Changes.{new_value_of, new_values_in}
use Rattle.envstate.specs.loaded_list.LoadedTexts.{names_variable, files_variable, conflicts_variable, prereqs_variable}
use Rattle.envstate.specs.loaded_list.Loaded.{names_text, files_text, conflicts_text, prereqs_text}
use Rattle.envstate.specs.loaded_list.LoadedEntries.{entry_view}
use Rattle.envstate.proofs.loaded_list.LoadedNeeded.{pushed_four}
use Rattle.envstate.proofs.loaded_list.written_list.LoadedList.changes.Goals as goal

pub returns : goal.returns
returns g c =
    let list = c.args.self.now in
    let xs = map entry_view list.entries.items in
    pushed_four (g.V.Vars.vars c.args.env.now) names_variable files_variable conflicts_variable prereqs_variable
    (option_map string_bytes c.in_ok-names.names) (option_map string_bytes c.in_ok-files.files)
    (option_map string_bytes c.in_ok-conflicts.conflicts) (option_map string_bytes c.in_ok-prereqs.prereqs)
    (names_text xs) (files_text xs) (conflicts_text xs) (prereqs_text xs)
    (new_values_in c.new-changes.result) (new_values_in c.push_change.new.changes) (new_values_in c.push_change-2.new.changes)
    (new_values_in c.push_needed.new.changes) (new_values_in c.push_needed-2.new.changes)
    (ap (map new_value_of) c.new-changes.ensures.items)
    c.in_ok-push_change.ensures c.in_ok-push_change-2.ensures c.in_ok-push_needed.ensures c.in_ok-push_needed-2.ensures
    (c.in_ok-names.ensures ∙ list.has_names c.requires) (c.in_ok-files.ensures ∙ list.has_files c.requires)
    (c.in_ok-conflicts.ensures ∙ list.has_conflicts c.requires) (c.in_ok-prereqs.ensures ∙ list.has_prereqs c.requires)

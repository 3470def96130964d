use Rattle.std.proofs.Common.{◌≡◌, Some, string_bytes, rules}
use Rattle.std.specs.Option.{option_map}
use Rattle.envstate.proofs.loaded_list.LoadedWriting.{named_grown, names_grown, files_grown, conflicts_grown, prereqs_grown}
use Rattle.envstate.proofs.loaded_list.written_list.LoadedList.with_appended.Goals as goal

pub invariant_of-result-clause-named : goal.invariant_of-result-clause-named
invariant_of-result-clause-named c =
    let list = c.args.self in
    let same : string_bytes c.in_ok-from_str.field-0 ≡ string_bytes c.args.entry.name = search rules in
    named_grown list.names.items c.push.new.self.items c.in_ok-from_str.field-0 list.entries.items c.push-2.new.self.items c.args.entry
    c.in_ok-push.ensures.items same list.named c.in_ok-push-2.ensures.items

pub invariant_of-result-clause-has_names : goal.invariant_of-result-clause-has_names
invariant_of-result-clause-has_names c = λ is_written.
    let list = c.args.self in
    names_grown (option_map string_bytes list.names_value) (Some (string_bytes c.in_ok-names_value.names_value)) list.entries.items
    c.push-2.new.self.items c.args.entry c.in_ok-push-2.ensures.items (list.has_names is_written)
    (rw c.as_str.ensures.value at c.in_ok-names_value.ensures)

pub invariant_of-result-clause-has_files : goal.invariant_of-result-clause-has_files
invariant_of-result-clause-has_files c = λ is_written.
    let list = c.args.self in
    files_grown (option_map string_bytes list.files_value) (Some (string_bytes c.in_ok-files_value.files_value)) list.entries.items
    c.push-2.new.self.items c.args.entry c.in_ok-push-2.ensures.items (list.has_files is_written)
    (rw c.as_str-2.ensures.value at c.in_ok-files_value.ensures)

pub invariant_of-result-clause-has_conflicts : goal.invariant_of-result-clause-has_conflicts
invariant_of-result-clause-has_conflicts c = λ is_written.
    let list = c.args.self in
    conflicts_grown (option_map string_bytes list.conflicts_value) (option_map string_bytes c.in_ok-conflicts_value.conflicts_value)
    list.entries.items c.push-2.new.self.items c.args.entry c.in_ok-push-2.ensures.items (list.has_conflicts is_written)
    c.in_ok-conflicts_value.ensures

pub invariant_of-result-clause-has_prereqs : goal.invariant_of-result-clause-has_prereqs
invariant_of-result-clause-has_prereqs c = λ is_written.
    let list = c.args.self in
    prereqs_grown (option_map string_bytes list.prereqs_value) (option_map string_bytes c.in_ok-prereqs_value.prereqs_value)
    list.entries.items c.push-2.new.self.items c.args.entry c.in_ok-push-2.ensures.items (list.has_prereqs is_written)
    c.in_ok-prereqs_value.ensures

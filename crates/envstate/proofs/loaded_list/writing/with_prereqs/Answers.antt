use Rattle.std.proofs.Common.{◌≡◌, ◌<◌, length, string_bytes, rules}
use Rattle.std.specs.Option.{option_map}
use Rattle.envstate.specs.loaded_list.LoadedEntries.{entry_view}
use Rattle.envstate.proofs.loaded_list.LoadedWriting.{prereqs_written}
use Rattle.envstate.proofs.loaded_list.writing.with_prereqs.Goals as goal

pub returns : goal.returns
returns c =
    let x = entry_view c.args.entry.now in
    let some : 0 < length c.args.entry.now.prereqs.items = search rules in
    let texts = c.in_ok-groups.groups.items in
    let same : c.as_slice-2.result.now ≡ texts = c.as_slice-2.ensures.value in
    let pushed = rw same at c.in_ok-push_words.ensures in
    let named = rw c.as_str.ensures.value at c.in_ok-push_str.ensures.bytes in
    prereqs_written (option_map string_bytes c.args.text) c.args.entry.now texts (string_bytes c.in_ok-text.text) (string_bytes c.push_str.new.self) (string_bytes c.push_words.new.text)
    some (rw c.as_slice.ensures.value at c.in_ok-groups.ensures) c.in_ok-text.ensures named pushed

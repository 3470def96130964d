use Rattle.std.proofs.Common.{◌≡◌, ◌<◌, refl, length, string_bytes, rules}
use Rattle.std.specs.Option.{option_map}
use Rattle.envstate.specs.loaded_list.LoadedEntries.{entry_view}
use Rattle.envstate.proofs.loaded_list.LoadedWriting.{conflicts_written}
use Rattle.envstate.proofs.loaded_list.writing.with_conflicts.Goals as goal

pub returns : goal.returns
returns c =
    let x = entry_view c.args.entry.now in
    let names = c.args.entry.now.conflicts.items in
    let some : 0 < length names = search rules in
    let same : c.as_slice.result.now ≡ names = c.as_slice.ensures.value in
    let pushed = rw same at c.in_ok-push_words.ensures in
    let named = rw c.as_str.ensures.value at c.in_ok-push_str.ensures.bytes in
    conflicts_written (option_map string_bytes c.args.text) x names (string_bytes c.in_ok-text.text) (string_bytes c.push_str.new.self) (string_bytes c.push_words.new.text)
    some refl c.in_ok-text.ensures named pushed

use Rattle.std.proofs.Common.{string_bytes}
use Rattle.std.specs.Option.{option_map}
use Rattle.envstate.proofs.loaded_list.LoadedWriting.{prereqs-turn}
use Rattle.envstate.proofs.loaded_list.writing.prereqs_text.Goals as goal

pub loop-entry-preserved : goal.loop-entry-preserved
loop-entry-preserved c =
    prereqs-turn (option_map string_bytes c.loop-entry.text) (option_map string_bytes c.in_ok-text.text)
    c.args.list.now c.loop-entry.entry-index c.entry-item.result c.loop-entry-test.true c.entry-item.is
    c.loop-entry.invariant c.in_ok-text.ensures

use Rattle.std.proofs.Common.{◌≡◌, ◌++◌, map, string_bytes}
use Rattle.std.specs.Vec.Iter.{into_iter_items}
use Rattle.module_subcommands.specs.Replies.{message_writing}
use Rattle.module_subcommands.specs.Writings.{writing_view}
use Rattle.module_subcommands.proofs.reply.push_messages.Given as goal

abbrev pub invariant-loop-message : goal.invariant-loop-message
invariant-loop-message l =
    map writing_view l.writes.items ++ map message_writing (map string_bytes (into_iter_items l.message-iterator))
    ≡ map writing_view l.initial.writes.items ++ map message_writing (map string_bytes l.fn.messages.items)

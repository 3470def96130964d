use Rattle.std.proofs.Common.{◌≡◌, flat_map, map, string_bytes, take}
use Rattle.module_subcommands.proofs.describing.with_messages.Given as goal

abbrev pub invariant-loop-message : goal.invariant-loop-message
invariant-loop-message l =
    string_bytes l.text ≡ flat_map (λ message. message) (map string_bytes (take l.message-index l.messages))

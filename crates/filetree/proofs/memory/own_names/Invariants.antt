use Rattle.std.proofs.Common.{◌≡◌, map, take, string_bytes, vec_items}
use Rattle.filetree.proofs.memory.own_names.Given as goal

abbrev pub invariant-loop-name : goal.invariant-loop-name
invariant-loop-name l = map string_bytes (vec_items l.copy) ≡ map (λ name. name.now) (take l.name-index l.names)

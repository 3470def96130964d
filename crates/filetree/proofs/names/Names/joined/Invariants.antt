use Rattle.std.proofs.Common.{◌≡◌, map, take, string_bytes}
use Rattle.filetree.specs.Names.{text_of_names}
use Rattle.filetree.proofs.names.Names.joined.Given as goal

abbrev pub invariant-loop-name : goal.invariant-loop-name
invariant-loop-name l = string_bytes l.text ≡ text_of_names (map (λ name. name.now) (take l.name-index l.names))

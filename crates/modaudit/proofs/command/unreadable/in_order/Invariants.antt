use Rattle.std.proofs.Common.{◌≡◌, map, take, string_bytes}
use Rattle.std.specs.BTreeSet.{contains_text}
use Rattle.envvars.specs.Texts.{Text}
use Rattle.filetree.specs.hiding.Hidden.{is_among}
use Rattle.modaudit.proofs.command.unreadable.in_order.Given as goal

abbrev pub invariant-loop-path : goal.invariant-loop-path
invariant-loop-path l = (q : Text) → contains_text l.found q ≡ is_among (map string_bytes (take l.path-index l.paths)) q

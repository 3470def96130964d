use Rattle.std.proofs.Common.{◌≡◌, ◌++◌, length, flat_map, string_bytes}
use denote.Text.{Utf8}
use denote.Shadow.{shadow}
use Rattle.tcltext.specs.list.Lists.{escape}
use Rattle.tcltext.proofs.list.write.push_escapes.Given as goal

abbrev pub invariant-loop-b : goal.invariant-loop-b
invariant-loop-b l = shadow (Utf8 l.rest) × (string_bytes l.text ++ flat_map escape l.rest ≡ string_bytes l.initial.text ++ flat_map escape l.literal)

abbrev pub decreases-loop-b : goal.decreases-loop-b
decreases-loop-b l = length l.rest

use Rattle.std.proofs.Common.{◌≡◌, ◌++◌, string_bytes}
use Rattle.std.specs.List.{flat_map}
use Rattle.shelltext.specs.Printing.{spell}
use Rattle.shelltext.proofs.spelling.push_inner.Given as goal

-- what is written, and then what is left as it will be spelled, is the whole value
abbrev pub invariant-loop-c : goal.invariant-loop-c
invariant-loop-c l = string_bytes l.out ++ flat_map (spell l.family) l.c-iterator.rest.now ≡ string_bytes l.fn.out ++ flat_map (spell l.family) l.value

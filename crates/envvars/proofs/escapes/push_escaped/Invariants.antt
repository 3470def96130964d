use Rattle.std.proofs.Common.{◌≡◌, ◌++◌, string_bytes}
use Rattle.std.specs.Str.Iter.{chars_rest}
use Rattle.envvars.specs.Escapes.{escaped}
use Rattle.envvars.proofs.escapes.push_escaped.Given as goal

abbrev pub invariant-loop-c : goal.invariant-loop-c
invariant-loop-c l = string_bytes l.text ++ escaped (chars_rest l.c-iterator) ≡ string_bytes l.fn.text ++ escaped l.fn.part

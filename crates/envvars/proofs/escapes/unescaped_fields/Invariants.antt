use Rattle.std.proofs.Common.{◌≡◌}
use Rattle.std.specs.Str.Iter.{chars_rest}
use Rattle.envvars.specs.Escapes.{unescaped_fields}
use Rattle.envvars.specs.EscapeReading.{fields_with_rest}
use Rattle.envvars.proofs.escapes.unescaped_fields.Given as goal

abbrev pub invariant-loop-c : goal.invariant-loop-c
invariant-loop-c l = fields_with_rest l.reading (chars_rest l.c-iterator) ≡ unescaped_fields l.fn.text

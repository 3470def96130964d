use Rattle.std.proofs.Common.{◌≡◌}
use Rattle.std.specs.Str.{chars, IsUtf8}
use Rattle.std.specs.Str.Iter.{chars_rest}
use Rattle.tcltext.specs.pattern.Search.Uniform.{reading_of}
use Rattle.tcltext.specs.declared.pattern.star.ReadingState.TheVariants.{Outside}
use Rattle.tcltext.proofs.pattern.star.is_uniform.Given as goal

abbrev pub invariant-loop-c : goal.invariant-loop-c
invariant-loop-c l = record {
  utf8 : IsUtf8 (chars_rest l.c-iterator);
  same : reading_of l.reading (chars (chars_rest l.c-iterator)) ≡ reading_of Outside (chars l.pattern);
}

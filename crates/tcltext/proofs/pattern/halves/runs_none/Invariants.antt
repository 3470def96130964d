use Rattle.std.proofs.Common.{◌↔◌, [], length}
use denote.Text.{Utf8}
use denote.Shadow.{shadow}
use Rattle.std.specs.Str.{chars}
use Rattle.tcltext.specs.pattern.Search.Steps.{Run}
use Rattle.tcltext.proofs.pattern.halves.runs_none.Given as goal

abbrev pub invariant-loop-pattern : goal.invariant-loop-pattern
invariant-loop-pattern l = record {
  utf8 : shadow (Utf8 l.pattern);
  same : Run (chars l.pattern) [] (chars l.to) ↔ Run (chars l.from) [] (chars l.to);
}

abbrev pub decreases-loop-pattern : goal.decreases-loop-pattern
decreases-loop-pattern l = length l.pattern

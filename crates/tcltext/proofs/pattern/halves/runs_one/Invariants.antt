use Rattle.std.proofs.Common.{◌↔◌, [], ◌∷◌, length}
use denote.Text.{Utf8}
use denote.Shadow.{shadow}
use Rattle.std.specs.Str.{chars}
use Rattle.tcltext.specs.pattern.Search.Steps.{Run}
use Rattle.tcltext.proofs.pattern.halves.runs_one.Given as goal

abbrev pub invariant-loop-first : goal.invariant-loop-first
invariant-loop-first l = record {
  utf8 : shadow (Utf8 l.pattern);
  same : Run (chars l.pattern) (l.c ∷ []) (chars l.to) ↔ Run (chars l.from) (l.c ∷ []) (chars l.to);
}

abbrev pub decreases-loop-first : goal.decreases-loop-first
decreases-loop-first l = length l.pattern

use Rattle.std.proofs.Common.{◌≡◌, ◌+◌, ◌≤◌, length}
use denote.Text.{Utf8}
use denote.Shadow.{shadow}
use Rattle.std.specs.Str.{chars}
use Rattle.tcltext.proofs.pattern.RowLemmas.{IsFilled}
use Rattle.tcltext.proofs.pattern.sweep.fill.Given as goal

abbrev pub invariant-loop-rest : goal.invariant-loop-rest
invariant-loop-rest l = record {
  utf8 : shadow (Utf8 l.prefix);
  len : length l.states ≡ length l.fn.states;
  at : l.at + length l.prefix ≤ length l.pattern;
  filled : IsFilled (chars l.pattern) (chars l.prefix) l.states l.at l.stars;
}

abbrev pub decreases-loop-rest : goal.decreases-loop-rest
decreases-loop-rest l = length l.prefix

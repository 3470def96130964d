use Rattle.std.proofs.Common.{◌≡◌, length}
use denote.Text.{Utf8}
use denote.Shadow.{shadow}
use Rattle.std.specs.Str.{chars}
use Rattle.tcltext.proofs.pattern.RowLemmas.{IsSearched}
use Rattle.tcltext.proofs.pattern.sweep.search.Given as goal

abbrev pub invariant-loop-prefix : goal.invariant-loop-prefix
invariant-loop-prefix l = record {
  utf8 : shadow (Utf8 l.rest);
  len : length l.states ≡ length l.fn.states;
  searched : IsSearched (chars l.pattern) (chars l.text) (chars l.rest) l.states;
}

abbrev pub decreases-loop-prefix : goal.decreases-loop-prefix
decreases-loop-prefix l = length l.rest

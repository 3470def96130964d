use Rattle.std.proofs.Common.{length}
use denote.Text.{Utf8}
use denote.Shadow.{shadow}
use Rattle.std.specs.Str.{chars}
use Rattle.tcltext.specs.pattern.Patterns.{IsMatch}
use Rattle.tcltext.specs.pattern.Search.Tails.{IsTail}
use Rattle.tcltext.proofs.pattern.TextLemmas.{AreLeft}
use Rattle.tcltext.proofs.pattern.halves.matches.Given as goal

abbrev pub invariant-loop-rest : goal.invariant-loop-rest
invariant-loop-rest l = record {
  utf8 : shadow (Utf8 l.rest);
  tail : IsTail (chars l.text) (chars l.rest);
  remaining : AreLeft (λ ts. IsMatch (chars l.pattern) ts) (chars l.text) (chars l.rest);
}

abbrev pub decreases-loop-rest : goal.decreases-loop-rest
decreases-loop-rest l = length l.rest

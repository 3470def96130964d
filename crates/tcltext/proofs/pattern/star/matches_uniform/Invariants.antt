use Rattle.std.proofs.Common.{◌≡◌, ◌↔◌, ◌+◌, true, length}
use Rattle.std.specs.Str.{chars}
use Rattle.tcltext.specs.pattern.Search.Uniform.{is_uniform}
use Rattle.tcltext.specs.pattern.Search.Positions.{StarMatches, IsUtf8Position}
use Rattle.tcltext.proofs.pattern.star.matches_uniform.Given as goal

abbrev pub invariant-loop-star : goal.invariant-loop-star
invariant-loop-star l = record {
  text : IsUtf8Position l.star;
  uniform : is_uniform (chars l.star.pattern.now) ≡ true;
  same : StarMatches l.star ↔ StarMatches l.first;
}

abbrev pub decreases-loop-star : goal.decreases-loop-star
decreases-loop-star l = length l.star.pattern.now + length l.star.text.now

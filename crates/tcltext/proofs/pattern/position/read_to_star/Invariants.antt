use Rattle.std.proofs.Common.{◌+◌, ◌≤◌, ◌↔◌, ℕ, List, length}
use Rattle.std.specs.Str.{chars}
use Rattle.tcltext.specs.pattern.Patterns.{IsMatch}
use Rattle.tcltext.specs.pattern.Search.Steps.{StepsToStar}
use Rattle.tcltext.specs.pattern.Search.Positions.{IsUtf8Position}
use Rattle.tcltext.proofs.pattern.position.read_to_star.Given as goal

abbrev pub invariant-loop-first : goal.invariant-loop-first
invariant-loop-first l = record {
  text : IsUtf8Position l.position;
  same : IsMatch (chars l.position.pattern.now) (chars l.position.text.now) ↔ IsMatch (chars l.pattern) (chars l.text);
  steps_to_star : (qs ds : List ℕ) → StepsToStar (chars l.position.pattern.now) (chars l.position.text.now) qs ds → StepsToStar (chars l.pattern) (chars l.text) qs ds;
  no_longer : length l.position.pattern.now + length l.position.text.now ≤ length l.pattern + length l.text;
}

abbrev pub decreases-loop-first : goal.decreases-loop-first
decreases-loop-first l = length l.position.pattern.now

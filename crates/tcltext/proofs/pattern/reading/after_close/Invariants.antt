use Rattle.std.proofs.Common.{◌≡◌, ◌≤◌, length}
use denote.Text.{Utf8}
use denote.Shadow.{shadow}
use Rattle.std.specs.Str.{chars}
use Rattle.tcltext.specs.pattern.Patterns.{after_close}
use Rattle.tcltext.proofs.pattern.reading.after_close.Given as goal

abbrev pub invariant-loop-c : goal.invariant-loop-c
invariant-loop-c l = record {
  text : shadow (Utf8 l.rest);
  found : after_close (chars l.pattern) ≡ after_close (chars l.rest);
  no_longer : length l.rest ≤ length l.pattern;
}

abbrev pub decreases-loop-c : goal.decreases-loop-c
decreases-loop-c l = length l.rest

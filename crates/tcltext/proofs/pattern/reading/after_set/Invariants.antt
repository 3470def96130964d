use Rattle.std.proofs.Common.{◌≤◌, length}
use Rattle.std.specs.Str.{chars}
use denote.Text.{Utf8}
use denote.Shadow.{shadow}
use Rattle.tcltext.proofs.pattern.SetLemmas.{HoldsAs}
use Rattle.tcltext.proofs.pattern.reading.after_set.Given as goal

abbrev pub invariant-loop-item : goal.invariant-loop-item
invariant-loop-item l = record { text : shadow (Utf8 l.rest); holds : HoldsAs l.c (chars l.rest) (chars l.set); no_longer : length l.rest ≤ length l.set }

abbrev pub decreases-loop-item : goal.decreases-loop-item
decreases-loop-item l = length l.rest

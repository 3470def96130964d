use Rattle.std.proofs.Common.{length}
use denote.Text.{Utf8}
use denote.Shadow.{shadow}
use Rattle.tcleval.specs.OpenScripts.{script_view}
use Rattle.tcleval.proofs.PlaceLemmas.{Left}
use Rattle.tcleval.proofs.places.offset_from.Given as goal

abbrev pub invariant-loop-after : goal.invariant-loop-after
invariant-loop-after l = shadow (Utf8 l.rest) × Left (script_view l.script) l.from l.file l.rest

abbrev pub decreases-loop-after : goal.decreases-loop-after
decreases-loop-after l = length l.rest

use Rattle.std.proofs.Common.{◌+◌, ◌*◌, length}
use denote.Text.{Utf8}
use denote.Shadow.{shadow}
use Rattle.std.specs.Str.{chars}
use Rattle.tcltext.specs.pattern.Search.Steps.{RunsBy}
use Rattle.tcltext.proofs.pattern.TextLemmas.{AreLeft}
use Rattle.tcltext.proofs.pattern.halves.+halves.Given as goal

abbrev pub decreases-runs : goal.decreases-runs
decreases-runs l = 2 * l.count + 1

abbrev pub decreases-runs_by : goal.decreases-runs_by
decreases-runs_by l = 2 * l.count

abbrev pub invariant-runs-loop-middle : goal.invariant-runs-loop-middle
invariant-runs-loop-middle l = record {
  utf8 : shadow (Utf8 l.middle);
  remaining : AreLeft (λ ms. RunsBy (chars l.from) (chars l.text) ms l.count (chars l.to)) (chars l.from) (chars l.middle);
}

abbrev pub decreases-runs-loop-middle : goal.decreases-runs-loop-middle
decreases-runs-loop-middle l = length l.middle

use Rattle.std.proofs.Common.{◌≡◌, false, length}
use denote.Text.{Utf8}
use denote.Shadow.{shadow}
use Rattle.tcltext.specs.chars.Bytes.{is_gap}
use Rattle.tcltext.specs.chars.Classes.{begins_in}
use Rattle.tcltext.specs.script.ScanState.{skip_gap}
use Rattle.tcltext.proofs.script.runs.skip_gap.Given as goal

abbrev pub invariant-loop-next : goal.invariant-loop-next
invariant-loop-next l = record {
  utf8 : shadow (Utf8 l.rest);
  stops : begins_in is_gap l.rest ≡ false;
  same : skip_gap l.text ≡ skip_gap l.rest;
}

abbrev pub decreases-loop-next : goal.decreases-loop-next
decreases-loop-next l = length l.rest

use Rattle.std.proofs.Common.{◌≡◌, length}
use Rattle.tcltext.specs.chars.Numerals.{trimmed_end}
use Rattle.tcltext.proofs.chars.number.trim_end.Given as goal

abbrev pub invariant-loop-rest : goal.invariant-loop-rest
invariant-loop-rest l = trimmed_end l.bytes ≡ trimmed_end l.rest

abbrev pub decreases-loop-rest : goal.decreases-loop-rest
decreases-loop-rest l = length l.rest

use Rattle.std.proofs.Common.{◌≡◌, length, true}
use Rattle.modulename.specs.DigitRuns.{number_of, are_digits}
use Rattle.modulename.proofs.digits.without_zeros.Given as goal

abbrev pub invariant-loop-rest : goal.invariant-loop-rest
invariant-loop-rest l = record {
  number : number_of l.rest ≡ number_of l.digits;
  digits : are_digits l.rest ≡ true;
}

abbrev pub decreases-loop-rest : goal.decreases-loop-rest
decreases-loop-rest l = length l.rest

use Rattle.std.proofs.Common.{◌≡◌, ◌<◌, ◌^◌, drop}
use Rattle.tcltext.specs.chars.Numerals.{digits_from}
use Rattle.tcltext.proofs.chars.number.few_digits.Given as goal

abbrev pub invariant-loop-digit : goal.invariant-loop-digit
invariant-loop-digit l = record {
  value : digits_from 10 0 l.digits ≡ digits_from 10 l.number (drop l.digit-index l.digits);
  small : l.number < 10 ^ l.digit-index;
}

use Rattle.std.proofs.Common.{◌≡◌, ◌-◌, drop}
use denote.Text.{Utf8}
use denote.Shadow.{shadow}
use Rattle.std.specs.Str.{chars}
use Rattle.tcltext.proofs.pattern.halves.skip.Given as goal

abbrev pub invariant-loop : goal.invariant-loop
invariant-loop l = record {
  utf8 : shadow (Utf8 l.rest);
  behind : drop (l.count - l.counter) (chars l.rest) ≡ drop l.count (chars l.text);
}

use Rattle.std.proofs.Common.{◌≡◌, map, length, string_bytes}
use Rattle.std.specs.Str.{IsUtf8}
use Rattle.tclforms.specs.Views.{in_pairs}
use Rattle.tclrules.specs.Rules.{fall_through}
use Rattle.tclforms.proofs.choice.fall_through.Given as goal

abbrev pub invariant-loop-rest : goal.invariant-loop-rest
invariant-loop-rest l = record {
  same : fall_through l.fn.body (in_pairs (map string_bytes l.following)) ≡ fall_through l.body (in_pairs (map string_bytes l.rest));
  utf8 : IsUtf8 l.body;
}

abbrev pub decreases-loop-rest : goal.decreases-loop-rest
decreases-loop-rest l = length l.rest

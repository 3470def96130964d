use Rattle.std.proofs.Common.{◌≡◌, string_bytes}
use Rattle.std.specs.List.{repeat}
use Rattle.tclvalue.proofs.texts.copies.Given as goal

abbrev pub invariant-loop : goal.invariant-loop
invariant-loop l = string_bytes l.copies ≡ repeat l.counter l.text

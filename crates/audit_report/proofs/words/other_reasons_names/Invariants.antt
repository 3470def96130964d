use Rattle.std.proofs.Common.{◌≡◌, ◌++◌, flat_map, string_bytes, take}
use Rattle.std.specs.Prelude.{codes}
use Rattle.audit_report.proofs.words.other_reasons_names.Given as goal

abbrev pub invariant-loop-name : goal.invariant-loop-name
invariant-loop-name l = string_bytes l.words ≡ flat_map (λ n. codes ", " ++ string_bytes n) (take l.name-index l.names)

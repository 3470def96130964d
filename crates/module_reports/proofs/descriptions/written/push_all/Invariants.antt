use Rattle.std.proofs.Common.{◌≡◌, ◌++◌, drop, map, flat_map, string_bytes}
use Rattle.envvars.specs.Texts.{Text}
use Rattle.module_reports.proofs.descriptions.written.push_all.Given as goal

abbrev pub invariant-loop-other : goal.invariant-loop-other
invariant-loop-other l =
    string_bytes l.initial.text ++ flat_map (λ (other : Text). other) (map string_bytes l.others)
    ≡ string_bytes l.text ++ flat_map (λ (other : Text). other) (map string_bytes (drop l.other-index l.others))

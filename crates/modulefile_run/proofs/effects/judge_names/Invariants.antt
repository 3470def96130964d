use Rattle.std.proofs.Common.{◌≡◌, drop, map, string_bytes}
use Rattle.modulefile.specs.Judgments.{names_reason}
use Rattle.modulefile_run.proofs.effects.judge_names.Given as goal

-- what is left decides
abbrev pub invariant-loop-name : goal.invariant-loop-name
invariant-loop-name l = names_reason (map string_bytes (drop l.name-index l.names)) ≡ names_reason (map string_bytes l.names)

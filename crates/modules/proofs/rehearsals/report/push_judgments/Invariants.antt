use Rattle.std.proofs.Common.{◌≡◌, ◌++◌, string_bytes, take}
use Rattle.std.specs.List.{flat_map}
use Rattle.modules.specs.rehearsals.Reports.{judgment_line}
use Rattle.modules.proofs.rehearsals.report.push_judgments.Given as goal

abbrev pub invariant-loop-judgment : goal.invariant-loop-judgment
invariant-loop-judgment l = string_bytes l.report ≡ string_bytes l.initial.report ++ flat_map judgment_line (take l.judgment-index l.judgments)

use Rattle.std.proofs.Common.{◌≡◌, ◌++◌, flat_map, take}
use Rattle.audit_report.specs.Remarks.{environment_line}
use Rattle.audit_report.proofs.remarks.push_all_words.Given as goal

abbrev pub invariant-loop-text : goal.invariant-loop-text
invariant-loop-text l = l.report.items ≡ l.initial.report.items ++ flat_map (λ text. environment_line text.now) (take l.text-index l.words)

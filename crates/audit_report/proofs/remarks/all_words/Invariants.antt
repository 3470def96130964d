use Rattle.std.proofs.Common.{◌≡◌, map, string_bytes, take}
use Rattle.audit_report.specs.Remarks.{disagreement_words}
use Rattle.audit_report.proofs.remarks.all_words.Given as goal

abbrev pub invariant-loop-reason : goal.invariant-loop-reason
invariant-loop-reason l = map string_bytes l.words.items ≡ map disagreement_words (take l.reason-index l.reasons)

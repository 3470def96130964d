use Rattle.std.proofs.Common.{flat_map, take}
use Rattle.audit_report.specs.Tokens.{AddsTokens, missing_tokens}
use Rattle.audit_report.proofs.document.write_all_missing.Given as goal

abbrev pub invariant-loop-dir : goal.invariant-loop-dir
invariant-loop-dir l = AddsTokens l.initial.writer l.writer (flat_map (missing_tokens l.unreadable) (take l.dir-index l.dirs))

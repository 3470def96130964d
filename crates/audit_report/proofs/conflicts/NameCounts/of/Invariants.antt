use Rattle.std.proofs.Common.{take}
use Rattle.envvars.specs.Texts.{slice_texts}
use Rattle.audit_report.specs.Counts.{HasCounts}
use Rattle.audit_report.proofs.conflicts.NameCounts.of.Given as goal

abbrev pub invariant-loop-name : goal.invariant-loop-name
invariant-loop-name l = HasCounts l.counts (slice_texts (take l.name-index l.names))

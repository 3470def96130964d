use Rattle.std.proofs.Common.{◌≡◌, ◌≤◌, take}
use Rattle.audit_report.specs.Words.{certified_count}
use Rattle.audit_report.proofs.selection.certified_count.Given as goal

abbrev pub invariant-loop-module : goal.invariant-loop-module
invariant-loop-module l = record {
  value : l.count ≡ certified_count (take l.module-index l.modules);
  bound : l.count ≤ l.module-index;
}

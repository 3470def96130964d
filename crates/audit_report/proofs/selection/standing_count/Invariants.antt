use Rattle.std.proofs.Common.{◌≡◌, ◌≤◌, take}
use Rattle.audit_report.specs.Words.{standing_count}
use Rattle.audit_report.proofs.selection.standing_count.Given as goal

abbrev pub invariant-loop-module : goal.invariant-loop-module
invariant-loop-module l = record {
  value : l.count ≡ standing_count l.word (take l.module-index l.modules);
  bound : l.count ≤ l.module-index;
}

use Rattle.std.proofs.Common.{List, map, take}
use Rattle.indexmap.specs.IndexSet.{insert_all}
use Rattle.reversal.specs.VariableUses.{UsedVariable}
use Rattle.audit_certificate.specs.UseViews.{used_view}
use Rattle.audit_certificate.specs.EachOnce.{same_used}
use Rattle.audit_certificate.specs.UseKeys.{HasUses}
use Rattle.audit_certificate.proofs.distinct_uses.DistinctUses.add_all.Given as goal

abbrev pub invariant-loop-used : goal.invariant-loop-used
invariant-loop-used l = (ps : List UsedVariable) → HasUses l.initial.self ps → HasUses l.self (insert_all same_used ps (map used_view (take l.used-index l.all_used)))

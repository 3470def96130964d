use Rattle.std.proofs.Common.{map, take}
use Rattle.audit_certificate.specs.Users.{AreUsersOf, uses_of_modules}
use Rattle.audit_certificate.specs.Tables.{users_at}
use Rattle.audit_certificate.specs.RankedModule.{ranked_module, taken}
use Rattle.audit_certificate.proofs.table.VariableTable.of_taken.Given as goal

abbrev pub invariant-loop-ranked : goal.invariant-loop-ranked
invariant-loop-ranked l = AreUsersOf (users_at l.table) (uses_of_modules (taken (map ranked_module (take l.ranked-index l.ranks))))

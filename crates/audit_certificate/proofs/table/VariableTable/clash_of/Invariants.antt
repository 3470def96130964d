use Rattle.std.proofs.Common.{◌≡◌, false, take, map}
use Rattle.audit_certificate.specs.Tables.{users_at}
use Rattle.audit_certificate.specs.UsingModules.{candidate_in}
use Rattle.audit_certificate.proofs.TableLemmas.{use_of, some_clash}
use Rattle.audit_certificate.proofs.table.VariableTable.clash_of.Given as goal

abbrev pub invariant-loop-used : goal.invariant-loop-used
invariant-loop-used l = some_clash (users_at l.self) (map (use_of (candidate_in l.candidate)) (take l.used-index l.used-items)) ≡ false

use Rattle.std.proofs.Common.{map, take}
use Rattle.audit_certificate.specs.Users.{EntersAll}
use Rattle.audit_certificate.specs.Tables.{users_at}
use Rattle.audit_certificate.specs.UsingModules.{candidate_in}
use Rattle.audit_certificate.proofs.TableLemmas.{use_of}
use Rattle.audit_certificate.proofs.table.VariableTable.enter_module.Given as goal

abbrev pub invariant-loop-used : goal.invariant-loop-used
invariant-loop-used l = EntersAll (users_at l.initial.self) (users_at l.self) (map (use_of (candidate_in l.candidate)) (take l.used-index l.used-items))

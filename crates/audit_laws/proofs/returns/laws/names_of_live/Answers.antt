use Rattle.audit_laws.proofs.returns.MeantNames.{names_of_none_at_start}
use Rattle.audit_laws.proofs.returns.NamesOfLive.{names_of_live}
use Rattle.audit_laws.proofs.returns.laws.names_of_live.Goals as goal

pub returns-clause-none_at_start : goal.returns-clause-none_at_start
returns-clause-none_at_start c = names_of_none_at_start

pub returns-clause-live : goal.returns-clause-live
returns-clause-live c = names_of_live

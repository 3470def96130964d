use Rattle.audit_laws.proofs.site.Standing.{each_stands, certified_stand}
use Rattle.audit_laws.proofs.site.OneStanding.{one_standing}
use Rattle.audit_laws.proofs.site.FreeReads.{certified_read_freely}
use Rattle.audit_laws.proofs.site.laws.standings.Goals as goal

pub returns-clause-each : goal.returns-clause-each
returns-clause-each c = each_stands c.files.ensures.some

pub returns-clause-one : goal.returns-clause-one
returns-clause-one c = one_standing c.files.ensures.one

pub returns-clause-certified : goal.returns-clause-certified
returns-clause-certified c = certified_stand c.certified.ensures.exact

pub returns-clause-free : goal.returns-clause-free
returns-clause-free c = certified_read_freely c.files.ensures.one

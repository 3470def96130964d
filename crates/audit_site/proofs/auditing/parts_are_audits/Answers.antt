use Rattle.audit_site.proofs.Audited as audited
use Rattle.audit_site.proofs.auditing.parts_are_audits.Goals as goal

pub returns : goal.returns
returns c =
    audited.parts_are_audits (record {
      one = c.files.ensures.one;
      modules = c.walks.ensures.modules;
      deterministic = c.walks.ensures.deterministic;
      audits = c.sessions_return.ensures.audits;
    })

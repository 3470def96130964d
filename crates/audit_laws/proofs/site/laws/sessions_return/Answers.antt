use Rattle.audit_laws.proofs.site.Returned.{site_sessions_return, audits_hold}
use Rattle.audit_laws.proofs.site.laws.sessions_return.Goals as goal

pub returns-clause-certificate : goal.returns-clause-certificate
returns-clause-certificate c =
    site_sessions_return c.files.ensures.one c.sessions.ensures.reach c.certified.ensures.exact c.conflicts.ensures c.steps.ensures.none
    c.steps.ensures.kept c.deterministic_records.ensures

pub returns-clause-audits : goal.returns-clause-audits
returns-clause-audits c =
    audits_hold c.certified.ensures.exact
    (site_sessions_return c.files.ensures.one c.sessions.ensures.reach c.certified.ensures.exact c.conflicts.ensures c.steps.ensures.none
    c.steps.ensures.kept c.deterministic_records.ensures)

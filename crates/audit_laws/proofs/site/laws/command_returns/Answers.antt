use Rattle.audit_laws.proofs.site.Returned.{site_commands_return}
use Rattle.audit_laws.proofs.site.laws.command_returns.Goals as goal

pub returns : goal.returns
returns c =
    site_commands_return c.files.ensures.one c.outcomes.ensures.reach c.certified.ensures.exact c.conflicts.ensures c.steps.ensures.kept
    c.deterministic_records.ensures

use Rattle.audit_dry_runs.proofs.LawLemmas.{one_dry_run}
use Rattle.audit_dry_runs.proofs.SomeDryRun.{some_dry_run}
use Rattle.audit_dry_runs.proofs.UnloadLemmas.{unloads_the_module}
use Rattle.audit_dry_runs.proofs.laws.dry_runs.Goals as goal

pub returns-clause-one : goal.returns-clause-one
returns-clause-one c = one_dry_run c.outcomes.ensures.one

pub returns-clause-some : goal.returns-clause-some
returns-clause-some c = some_dry_run c.some_outcome.ensures c.changes.ensures

pub returns-clause-unloads : goal.returns-clause-unloads
returns-clause-unloads c = unloads_the_module c.outcomes.ensures.reach c.loaded_edits.ensures.add

use Rattle.requests.proofs.Reporting.{reports_leave, selections_reported}
use Rattle.requests.proofs.laws.reports.Goals as goal

pub returns-clause-unchanged : goal.returns-clause-unchanged
returns-clause-unchanged c = reports_leave

pub returns-clause-selections : goal.returns-clause-selections
returns-clause-selections c = selections_reported

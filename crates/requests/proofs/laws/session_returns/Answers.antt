use Rattle.requests.proofs.Returned.{sessions_return}
use Rattle.requests.proofs.laws.session_returns.Goals as goal

pub returns : goal.returns
returns c = sessions_return c.sessions.ensures.reach c.runs.ensures.returned c.steps.ensures

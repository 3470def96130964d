use Rattle.requests.proofs.hand_changes.Sessions.{sessions_return}
use Rattle.requests.proofs.hand_changes.laws.sessions_return.Goals as goal

pub returns : goal.returns
returns c = sessions_return c.runs.ensures.returned c.command_returns.ensures c.one_change.ensures

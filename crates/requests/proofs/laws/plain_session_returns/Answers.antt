use Rattle.requests.proofs.PlainMoves.{plain_sessions_return}
use Rattle.requests.proofs.laws.plain_session_returns.Goals as goal

pub returns : goal.returns
returns c = plain_sessions_return c.sessions.ensures.reach c.runs.ensures.returned c.steps.ensures c.plain.ensures c.session_returns.ensures

use Rattle.requests.proofs.JudgedMoves.{judged_sessions_return}
use Rattle.requests.proofs.laws.judged_session_returns.Goals as goal

pub returns : goal.returns
returns c = judged_sessions_return c.plain.ensures c.plain_session_returns.ensures

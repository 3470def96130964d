use Rattle.requests.specs.Sessions.{end_environment}
use Rattle.requests.proofs.SessionMoves.{session_run, run_leads, same_session}
use Rattle.requests.proofs.laws.sessions.Goals as goal

pub returns-clause-run : goal.returns-clause-run
returns-clause-run c = session_run c.outcomes.ensures.reach

pub returns-clause-reach : goal.returns-clause-reach
returns-clause-reach c = λ s e rs os h. run_leads c.moves.ensures.compose _ e (end_environment e os) (session_run c.outcomes.ensures.reach s e rs os h)

pub returns-clause-one : goal.returns-clause-one
returns-clause-one c = same_session c.outcomes.ensures.one

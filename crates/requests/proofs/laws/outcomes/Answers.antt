use Rattle.requests.proofs.MadeByMoves.{led_by_moves}
use Rattle.requests.proofs.OneStep.{one_step}
use Rattle.requests.proofs.laws.outcomes.Goals as goal

pub returns-clause-one : goal.returns-clause-one
returns-clause-one c = λ s e asked. one_step c.files.ensures.one c.one_result.ensures s e asked

pub returns-clause-reach : goal.returns-clause-reach
returns-clause-reach c = led_by_moves

pub returns-clause-all_moved : goal.returns-clause-all_moved
returns-clause-all_moved c = λ s e asked d h. c.moves.ensures.all_moved d.moves e d.env (led_by_moves s e asked d h)

use Rattle.requests.proofs.Judging.{one_verdict, some_verdict, plain_holds, judged_is_plain}
use Rattle.requests.proofs.JudgedMoves.{judged_is_reversible}
use Rattle.requests.proofs.laws.verdicts.Goals as goal

pub returns-clause-one : goal.returns-clause-one
returns-clause-one c = one_verdict c.files.ensures.one c.one_result.ensures

pub returns-clause-plain : goal.returns-clause-plain
returns-clause-plain c = plain_holds c.plain.ensures

pub returns-clause-file : goal.returns-clause-file
returns-clause-file c = judged_is_plain

pub returns-clause-some : goal.returns-clause-some
returns-clause-some c = some_verdict c.files.ensures.some c.some_result.ensures

pub returns-clause-reversible : goal.returns-clause-reversible
returns-clause-reversible c = judged_is_reversible c.plain.ensures

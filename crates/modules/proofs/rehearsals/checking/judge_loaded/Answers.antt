use Rattle.modules.proofs.rehearsals.checking.judge_loaded.Goals as goal

pub returns-clause-failed : goal.returns-clause-failed
returns-clause-failed g c = rw (c.as_slice.ensures.value, c.in_ok-names.ensures) at c.give_verdicts.ensures.failed

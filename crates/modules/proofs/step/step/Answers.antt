use Rattle.modules.proofs.step.step.Goals as goal

pub returns-clause-reads : goal.returns-clause-reads
returns-clause-reads g c = c.act.ensures.done.reads

pub returns-clause-over_tree : goal.returns-clause-over_tree
returns-clause-over_tree g c = c.act.ensures.done.over_tree

pub returns-clause-failed : goal.returns-clause-failed
returns-clause-failed g c = c.act.ensures.done.failed_at

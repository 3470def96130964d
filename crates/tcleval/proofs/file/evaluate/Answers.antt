use Rattle.tcleval.proofs.file.evaluate.Goals as goal

pub returns-clause-evaluates : goal.returns-clause-evaluates
returns-clause-evaluates g c = c.evaluate_with.ensures.evaluates

pub returns-clause-same : goal.returns-clause-same
returns-clause-same g c = c.evaluate_with.ensures.same

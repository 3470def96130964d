use Rattle.tcleval.proofs.file.evaluate_with.Goals as goal

pub returns-in-Ok-clause-evaluates : goal.returns-in-Ok-clause-evaluates
returns-in-Ok-clause-evaluates g c = rw c.in-Ok.is at c.evaluate_placed.ensures.evaluates

pub returns-in-Err-clause-evaluates : goal.returns-in-Err-clause-evaluates
returns-in-Err-clause-evaluates g c = let h = rw c.in-Err.is at c.evaluate_placed.ensures.evaluates in (h.0, h.1)

pub returns-in-Ok-clause-same : goal.returns-in-Ok-clause-same
returns-in-Ok-clause-same g c = c.evaluate_placed.ensures.same

pub returns-in-Err-clause-same : goal.returns-in-Err-clause-same
returns-in-Err-clause-same g c = c.evaluate_placed.ensures.same

pub returns-in-Ok-clause-begins : goal.returns-in-Ok-clause-begins
returns-in-Ok-clause-begins g c = c.evaluate_placed.ensures.begins

pub returns-in-Err-clause-begins : goal.returns-in-Err-clause-begins
returns-in-Err-clause-begins g c = c.evaluate_placed.ensures.begins

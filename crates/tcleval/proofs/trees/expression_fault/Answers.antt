use Rattle.tcleval.proofs.trees.expression_fault.Goals as goal

pub returns-in-Some : goal.returns-in-Some
returns-in-Some c = rw (c.in-BadExpression.is, ← c.in-Some.ensures) c.unsupported.ensures

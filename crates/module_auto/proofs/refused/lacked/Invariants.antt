use Rattle.filetree.specs.Agreement.{ReadsOn}
use Rattle.module_auto.proofs.refused.lacked.Given as goal

abbrev pub invariant-loop-name : goal.invariant-loop-name
invariant-loop-name g l = ReadsOn g.T.Tree.agrees g.T.Tree.failures l.fn.tree l.tree

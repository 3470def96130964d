use Rattle.module_explain.proofs.LocationLemmas.{file_later}
use Rattle.module_explain.proofs.explanation.of_refusal.Goals as goal

pub returns-clause-file : goal.returns-clause-file
returns-clause-file g c =
    file_later (g.T.Tree.agrees c.file_of.new.tree) (g.T.Tree.agrees c.advice_for.new.tree) c.advice_for.ensures.reads.narrows c.args.refusal.now c.in_ok-file.file c.in_ok-file.ensures.file

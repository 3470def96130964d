use Rattle.std.proofs.Common.{◌<◌}
use Rattle.modules.proofs.MemoryNumberLemmas.{wants_any}
use Rattle.modules.proofs.VerdictLemmas.{plain_over_tree}
use Rattle.modules.proofs.verdicts.verdict.Goals as goal

pub returns-clause-reads : goal.returns-clause-reads
returns-clause-reads g c = c.give_verdict.ensures.reads

pub returns-clause-judged : goal.returns-clause-judged
returns-clause-judged g c =
    let judged = rw c.over.ensures.new at c.give_verdict.ensures in
    judged.over_tree

pub returns-clause-plain : goal.returns-clause-plain
returns-clause-plain g c =
    let judged = rw c.over.ensures.new at c.give_verdict.ensures in
    plain_over_tree c.verdicts.ensures.plain (g.T.Tree.agrees c.give_verdict.new.tree)
    (g.T.Tree.failures c.args.tree.now < g.T.Tree.failures c.give_verdict.new.tree) c.args.limits c.args.env.now
    c.args.name.now c.give_verdict.result judged.over_tree

pub returns-clause-failed : goal.returns-clause-failed
returns-clause-failed g c =
    let judged = rw c.over.ensures.new at c.give_verdict.ensures in
    judged.failed_at

pub returns-clause-out_of_memory : goal.returns-clause-out_of_memory
returns-clause-out_of_memory g c = wants_any c.give_verdict.result

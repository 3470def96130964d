use Rattle.std.proofs.Common.{refl, sym, ◌∙◌, inl, inr}
use Rattle.modaudit.proofs.command.ReadableLemmas.{reads_nothing}
use Rattle.modaudit.proofs.command.running.run_audit.Goals as goal

pub returns-then-asks_help-clause-ended : goal.returns-then-asks_help-clause-ended
returns-then-asks_help-clause-ended g c = inl (sym c.asks_help.ensures ∙ c.if-asks_help.true, refl, c.write_help.ensures)

pub returns-clause-ended : goal.returns-clause-ended
returns-clause-ended g c = inr (sym c.asks_help.ensures ∙ c.if-asks_help.false, c.run_judged.ensures.ended)

pub returns-then-asks_help-clause-reads : goal.returns-then-asks_help-clause-reads
returns-then-asks_help-clause-reads g c = reads_nothing g.T.Tree.agrees g.T.Tree.failures g.T.Tree.failed c.args.tree.now.tree _

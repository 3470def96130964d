use Rattle.std.proofs.Common.{◌+◌, ◌<◌, ◌≤◌, take}
use Rattle.envvars.specs.Texts.{slice_texts}
use Rattle.filetree.specs.Agreement.{FailsOnlyAt, ReadsOn}
use Rattle.modules.specs.Verdicts.{in_sh}
use Rattle.modules.specs.rehearsals.Judgments.{AreJudgments, NamesLookAt, count_failed_judgments}
use Rattle.modules.proofs.rehearsals.judging.give_verdicts.Given as goal

abbrev pub invariant-loop-name : goal.invariant-loop-name
invariant-loop-name g l = record {
  reads : ReadsOn g.T.Tree.agrees g.T.Tree.failures l.initial.tree l.tree;
  failures : g.T.Tree.failures l.initial.tree + count_failed_judgments l.judgments.items ≤ g.T.Tree.failures l.tree;
  judged : AreJudgments (g.T.Tree.agrees l.tree) (g.T.Tree.failures l.initial.tree < g.T.Tree.failures l.tree) l.limits l.env
      (slice_texts (take l.name-index l.names)) l.judgments.items;
  failed : FailsOnlyAt g.T.Tree.agrees g.T.Tree.failed l.initial.tree l.tree (λ files listings at.
      NamesLookAt (in_sh l.limits files listings) l.env (slice_texts l.names) at);
}

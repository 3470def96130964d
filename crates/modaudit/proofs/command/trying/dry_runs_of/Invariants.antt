use Rattle.std.proofs.Common.{◌+◌, ◌≤◌, map, string_bytes, take}
use Rattle.filetree.specs.Agreement.{InEachPair, ReadsOn}
use Rattle.modules.specs.Verdicts.{in_sh}
use Rattle.modulecmd.specs.Command.{standard}
use Rattle.modaudit.specs.command.Looked.{KeepsFailed, ReadsUnlessFails, DryRunsLookAt}
use Rattle.modaudit.specs.command.Tried.{AreDryRuns, failed_in}
use Rattle.modaudit.proofs.command.trying.dry_runs_of.Given as goal

-- those of the modules so far
abbrev pub invariant-loop-module : goal.invariant-loop-module
invariant-loop-module g l = record {
  reads : ReadsOn g.T.Tree.agrees g.T.Tree.failures l.initial.tree l.tree;
  tried : InEachPair (g.T.Tree.agrees l.tree) (λ files listings.
      AreDryRuns (in_sh standard files listings) (map string_bytes l.not_utf8) l.judged (take l.module-index l.modules) l.dry_runs.items);
  counted : g.T.Tree.failures l.initial.tree + failed_in l.dry_runs.items ≤ g.T.Tree.failures l.tree;
  kept : KeepsFailed (g.T.Tree.failed l.initial.tree) (g.T.Tree.failed l.tree);
  looked : ReadsUnlessFails g.T.Tree.agrees g.T.Tree.failures g.T.Tree.failed l.initial.tree l.tree (DryRunsLookAt l.judged l.modules);
}

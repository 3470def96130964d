use Rattle.std.proofs.Common.{◌≡◌, map, string_bytes, take}
use Rattle.filetree.specs.Agreement.{ReadsOn}
use Rattle.modaudit.specs.command.Audits.{AreDirectories}
use Rattle.modaudit.proofs.command.directories.judge_directories.Given as goal

abbrev pub invariant-loop-dir : goal.invariant-loop-dir
invariant-loop-dir g l = record {
  reads : ReadsOn g.T.Tree.agrees g.T.Tree.failures l.initial.tree l.tree;
  unfailed : g.T.Tree.failed l.tree ≡ g.T.Tree.failed l.initial.tree;
  there : AreDirectories (g.T.Tree.agrees l.tree) (map string_bytes (take l.dir-index l.dirs));
}

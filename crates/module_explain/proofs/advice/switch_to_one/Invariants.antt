use Rattle.std.proofs.Common.{◌≤◌, map, string_bytes, take}
use Rattle.filetree.specs.Agreement.{Narrows}
use Rattle.module_explain.specs.Advised.{NoSwitch}
use Rattle.module_explain.proofs.advice.switch_to_one.Given as goal

abbrev pub invariant-loop-name : goal.invariant-loop-name
invariant-loop-name g l = record {
  narrows : Narrows (g.T.Tree.agrees l.initial.tree) (g.T.Tree.agrees l.tree);
  counts : g.T.Tree.failures l.initial.tree ≤ g.T.Tree.failures l.tree;
  none : NoSwitch (g.T.Tree.agrees l.tree) l.refused.limits l.refused.request.now.shell l.refused.env.now l.other (map string_bytes (take l.name-index l.names));
}

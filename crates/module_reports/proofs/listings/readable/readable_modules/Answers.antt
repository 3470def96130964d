use Rattle.std.proofs.Common.{map, String, Global, string_bytes}
use Rattle.filetree.specs.Agreement.{is_device}
use Rattle.filetree.proofs.hiding.HidingLemmas.{all_failed_too, some_failed_too}
use Rattle.module_reports.proofs.listings.readable.readable_modules.Goals as goal

pub invariant_of-tree-clause-failed : goal.invariant_of-tree-clause-failed
invariant_of-tree-clause-failed g c =
    all_failed_too is_device (g.T.Tree.failed c.args.tree.now.tree) (g.T.Tree.failed c.selected.new.tree) c.selected.result _ c.selected.ensures.failed
    (map (λ (s : String Global). string_bytes s) c.args.tree.now.hidden.items) c.args.tree.now.failed

pub invariant_of-tree-clause-failed_there : goal.invariant_of-tree-clause-failed_there
invariant_of-tree-clause-failed_there g c =
    some_failed_too is_device (g.T.Tree.failed c.args.tree.now.tree) (g.T.Tree.failed c.selected.new.tree) c.selected.result _ c.selected.ensures.failed
    c.args.tree.now.failed_at c.args.tree.now.failed_there

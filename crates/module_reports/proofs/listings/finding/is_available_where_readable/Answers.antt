use Rattle.std.proofs.Common.{map, String, Global, string_bytes}
use Rattle.filetree.proofs.hiding.HidingLemmas.{all_failed_too, some_failed_too}
use Rattle.lookup.specs.DefaultFileResults.{HasResult}
use Rattle.requests.specs.Steps.{modulepath}
use Rattle.module_reports.specs.listings.Faults.{is_failure}
use Rattle.module_reports.proofs.listings.HiddenLemmas.{found_whole}
use Rattle.module_reports.proofs.listings.finding.is_available_where_readable.Goals as goal

pub invariant_of-tree-clause-failed : goal.invariant_of-tree-clause-failed
invariant_of-tree-clause-failed g c =
    all_failed_too is_failure (g.T.Tree.failed c.args.tree.now.tree) (g.T.Tree.failed c.is_available.new.tree) c.is_available.result _ c.is_available.ensures.failed
    (map (λ (s : String Global). string_bytes s) c.args.tree.now.hidden.items) c.args.tree.now.failed

pub invariant_of-tree-clause-failed_there : goal.invariant_of-tree-clause-failed_there
invariant_of-tree-clause-failed_there g c =
    some_failed_too is_failure (g.T.Tree.failed c.args.tree.now.tree) (g.T.Tree.failed c.is_available.new.tree) c.is_available.result _ c.is_available.ensures.failed
    c.args.tree.now.failed_at c.args.tree.now.failed_there

pub returns-in_default-2-clause-answer : goal.returns-in_default-2-clause-answer
returns-in_default-2-clause-answer g c =
    found_whole c.is_available.result (HasResult c.args.limits) (g.T.Tree.agrees c.is_available.new.tree) (g.T.Tree.failed c.is_available.new.tree)
    (g.T.Tree.failures c.args.tree.now.tree) (g.T.Tree.failures c.is_available.new.tree) (modulepath c.args.env.now) (map (λ (s : String Global). string_bytes s) c.args.names.now) c.is_available.ensures.answer

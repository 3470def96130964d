use Rattle.std.proofs.Common.{rules}
use Rattle.std.proofs.lemmas.List.Sorted.{answers_always}
use Rattle.envvars.proofs.DifferenceLemmas.{goes_before, by_name, strictly_sorted, same_changes}
use Rattle.envvars.proofs.difference.sort_by_name.Goals as goal

pub returns-clause-ordered : goal.returns-clause-ordered
returns-clause-ordered c =
    strictly_sorted c.args.changes.now.items _ c.sort_unstable_by.ensures.permutation c.requires
    (c.sort_unstable_by.ensures.sorted goes_before by_name (answers_always _ _ _ (λ f a r g h. search rules)))

pub returns-clause-same : goal.returns-clause-same
returns-clause-same c = same_changes c.args.changes.now.items _ c.sort_unstable_by.ensures.permutation c.requires

use Rattle.std.proofs.Common.{rules}
use Rattle.std.proofs.lemmas.List.Sorted.{answers_always}
use Rattle.search.specs.Versions.{goes_before}
use Rattle.search.proofs.VersionLemmas.{down_order}
use Rattle.search.proofs.versions.sort_down.Goals as goal

pub returns-clause-sorted : goal.returns-clause-sorted
returns-clause-sorted c = c.in_ok-sort_by.ensures.sorted (λ v w. goes_before v.now w.now) (down_order (λ v. v.now)) (answers_always _ _ _ (λ f a r g h. search rules))

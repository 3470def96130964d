use Rattle.std.proofs.Common.{String, Global, string_bytes, rules}
use Rattle.std.specs.Ordering.{is_lt}
use Rattle.std.proofs.lemmas.List.Sorted.{ranks_by, answers_always}
use Rattle.modulename.specs.Versions.{version_order}
use Rattle.modulename.proofs.OrderLemmas.{total}
use Rattle.search.proofs.names.sort_names.Goals as goal

pub returns-clause-sorted : goal.returns-clause-sorted
returns-clause-sorted c = c.in_ok-sort_by.ensures.sorted (λ (n : String Global) (m : String Global). is_lt (version_order (string_bytes n) (string_bytes m)))
    (ranks_by total (λ (s : String Global). string_bytes s)) (answers_always _ _ _ (λ f a r g h. search rules))

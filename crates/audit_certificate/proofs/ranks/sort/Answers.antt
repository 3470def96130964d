use Rattle.std.proofs.Common.{rules}
use Rattle.std.specs.Ordering.{is_lt}
use Rattle.std.proofs.lemmas.List.Sorted.{answers_always}
use Rattle.audit_certificate.specs.declared.ranks.RankedModule.{RankedModule}
use Rattle.audit_certificate.specs.RankedModule.{ranked_order}
use Rattle.audit_certificate.proofs.Taken.{rank_weak}
use Rattle.audit_certificate.proofs.ranks.sort.Goals as goal

pub returns-clause-sorted : goal.returns-clause-sorted
returns-clause-sorted c = c.sort_unstable_by.ensures.sorted (λ (r s : RankedModule). is_lt (ranked_order r s)) rank_weak (answers_always _ _ _ (λ f a r g h. search rules))

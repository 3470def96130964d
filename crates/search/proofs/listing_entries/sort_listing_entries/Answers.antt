use Rattle.std.proofs.Common.{rules}
use Rattle.std.proofs.lemmas.List.Sorted.{ranks_by, answers_always}
use Rattle.modulename.proofs.OrderLemmas.{total}
use Rattle.search.specs.ListingEntries.{goes_before, name_of}
use Rattle.search.proofs.listing_entries.sort_listing_entries.Goals as goal

pub returns-clause-sorted : goal.returns-clause-sorted
returns-clause-sorted c = c.in_ok-sort_by.ensures.sorted goes_before (ranks_by total name_of) (answers_always _ _ _ (λ f a r g h. search rules))

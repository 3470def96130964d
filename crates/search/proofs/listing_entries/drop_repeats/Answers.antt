use Rattle.std.proofs.Common.{rules, tests}
use Rattle.std.proofs.lemmas.Fn.{dedup_same}
use Rattle.search.specs.ListingEntries.{is_same_name}
use Rattle.search.proofs.listing_entries.drop_repeats.Goals as goal

pub returns : goal.returns
returns c = dedup_same _ is_same_name _ (λ x y b f x' y' h. (search (rules, tests), search rules, search rules, search rules)) _ _ c.dedup_by.ensures.filtered

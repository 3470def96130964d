use Rattle.std.proofs.Common.{rules, tests, ◌∙◌}
use Rattle.std.proofs.lemmas.Iterator.Search.{any_from_yields_List}
use Rattle.std.proofs.lemmas.Iterator.{YieldsList-from_slice}
use Rattle.search.specs.ListingEntries.{listing_entry_view}
use Rattle.search.specs.declared.listing_entries.ListingEntry.{ListingEntry}
use Rattle.module_reports.specs.listings.Chosen.{are_versions_of_one}
use Rattle.module_reports.proofs.listings.ListLemmas.{any_seen}
use Rattle.module_reports.proofs.listings.chosen.has_version.Goals as goal

pub returns : goal.returns
returns c =
    any_from_yields_List (λ (x : ListingEntry). are_versions_of_one (listing_entry_view c.args.entry.now) (listing_entry_view x)) _ _ c.any.result
    c.any.ensures.ran (YieldsList-from_slice c.args.others.now cc) (λ x b q k. search (rules, tests))
    ∙ any_seen (are_versions_of_one (listing_entry_view c.args.entry.now)) listing_entry_view c.args.others.now

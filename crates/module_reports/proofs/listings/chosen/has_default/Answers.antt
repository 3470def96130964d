use Rattle.std.proofs.Common.{rules, tests, ◌∙◌}
use Rattle.std.proofs.lemmas.Iterator.Search.{any_from_yields_List}
use Rattle.std.proofs.lemmas.Iterator.{YieldsList-from_slice}
use Rattle.search.specs.ListingEntries.{listing_entry_view}
use Rattle.search.specs.declared.listing_entries.ListingEntry.{ListingEntry}
use Rattle.module_reports.specs.listings.Chosen.{is_default_beside}
use Rattle.module_reports.proofs.listings.ListLemmas.{any_seen}
use Rattle.module_reports.proofs.listings.chosen.has_default.Goals as goal

pub returns : goal.returns
returns c =
    any_from_yields_List (λ (x : ListingEntry). is_default_beside (listing_entry_view c.args.entry.now) (listing_entry_view x)) _ _ c.any.result
    c.any.ensures.ran (YieldsList-from_slice c.args.modules.now cc) (λ x b q k. search (rules, tests))
    ∙ any_seen (is_default_beside (listing_entry_view c.args.entry.now)) listing_entry_view c.args.modules.now

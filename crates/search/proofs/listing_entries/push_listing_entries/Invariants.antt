use Rattle.std.proofs.Common.{◌≡◌, ◌++◌, map, option_map, string_bytes}
use Rattle.std.specs.Vec.Iter.{into_iter_items}
use Rattle.search.specs.ListingEntries.{listing_entry_view, listing_entry_of}
use Rattle.search.proofs.listing_entries.push_listing_entries.Given as goal

abbrev pub invariant-loop-name : goal.invariant-loop-name
invariant-loop-name l =
    map listing_entry_view l.initial.listing_entries.items ++ map (listing_entry_of (option_map (λ d. d.now) l.default)) (map string_bytes l.fn.modules.items)
    ≡ map listing_entry_view l.listing_entries.items ++ map (listing_entry_of (option_map (λ d. d.now) l.default)) (map string_bytes (into_iter_items l.name-iterator))

use Rattle.std.proofs.Common.{◌≡◌, ◌++◌, List, map, option_map, string_bytes, take}
use Rattle.filetree.specs.Agreement.{InEachPair, ReadsOn}
use Rattle.search.specs.Listed as listed
use Rattle.search.specs.ListingEntries.{listing_entry_view}
use Rattle.search.specs.Walks.{AreListingEntries}
use Rattle.search.specs.BelowFolder.{IsInside, names_in}
use Rattle.search.proofs.folders.FolderWalk.+list_folder.Given as goal

abbrev pub decreases-list_folder : goal.decreases-list_folder
decreases-list_folder g l = l.levels

abbrev pub invariant-loop-name : goal.invariant-loop-name
invariant-loop-name g l = record {
  reads : ReadsOn g.T.Tree.agrees g.T.Tree.failures l.initial.tree l.tree;
  walked : InEachPair (g.T.Tree.agrees l.tree) (λ files folders. (more : List listed.ListingEntry)
      × (map listing_entry_view l.listing_entries.items ≡ map listing_entry_view l.fn.listing_entries.items ++ more)
      × AreListingEntries (g.D.DefaultFiles.results l.self.default_files.now) files folders l.self.dir.now
      (IsInside files folders (map string_bytes l.self.texts.now) l.self.dir.now (names_in (map string_bytes l.self.texts.now) (option_map (λ f. f.now) l.prefix) (map string_bytes l.entries.items)) (map string_bytes (take l.name-index l.name-items))) more);
  unfailed : g.T.Tree.failed l.tree ≡ g.T.Tree.failed l.initial.tree;
}

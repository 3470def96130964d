use Rattle.std.proofs.Common.{map, None, refl, ap, ◌∙◌, ◌++◌, string_bytes}
use Rattle.std.proofs.lemmas.Result.{err_from_is_err_and}
use Rattle.filetree.specs.Agreement.{InEachPair, is_device}
use Rattle.search.specs.Looked.{LooksForListing}
use Rattle.filetree.proofs.FailedPaths.{fails_then}
use Rattle.search.specs.Walks.{LooksFromFolder}
use Rattle.search.specs.ListingEntries.{listing_entry_view}
use Rattle.search.proofs.ListingLemmas.{listing_is}
use Rattle.search.proofs.listings.modules_of.Goals as goal

pub returns-clause-answer : goal.returns-clause-answer
returns-clause-answer g c = λ files folders a.
    let m = c.in_ok-list_folder.ensures.added files folders a in
    listing_is (g.D.DefaultFiles.results c.args.default_files.now) files folders (map string_bytes c.args.texts.now) c.args.dir.now
    c.list_folder.new.listing_entries.items c.sort_listing_entries.new.listing_entries.items
    c.drop_repeats.new.listing_entries.items m.0
    (m.1 ∙ ap (λ listing_entries. map listing_entry_view listing_entries ++ m.0) c.new-listing_entries.ensures.items)
    m.2 c.in_ok-sort_listing_entries.ensures.same c.in_ok-sort_listing_entries.ensures.sorted c.drop_repeats.ensures

pub returns-in_err-list_folder-clause-failed : goal.returns-in_err-list_folder-clause-failed
returns-in_err-list_folder-clause-failed g c =
    let results = g.D.DefaultFiles.results c.args.default_files.now in
    let texts = map string_bytes c.args.texts.now in
    let dir = c.args.dir.now in
    let agrees = g.T.Tree.agrees c.list_folder.new.tree in
    let fails = is_device c.in_err-list_folder.field-0.0 in
    let p = err_from_is_err_and c.from_residual.result c.from_residual.ensures.1 in
    rw (p.1, p.2) (fails_then fails fails (g.T.Tree.failed c.args.tree.now) (g.T.Tree.failed c.args.tree.now) (g.T.Tree.failed c.list_folder.new.tree)
    (λ at. InEachPair agrees (λ files folders. LooksFromFolder results files folders texts dir None at))
    (λ at. InEachPair agrees (λ files folders. LooksForListing results files folders texts dir at)) refl refl
    (λ at h files folders a. h files folders a tt) c.in_err-list_folder.ensures.failed)

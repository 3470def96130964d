use Rattle.std.proofs.Common.{◌≡◌, List, [], ◌∷◌, map, refl, subst}
use Rattle.std.proofs.lemmas.Result.{err_from_is_err_and}
use Rattle.envvars.specs.Texts.{Text}
use Rattle.filetree.specs.Agreement.{InEachPair, is_device}
use Rattle.filetree.specs.Modulefiles.{directories}
use Rattle.lookup.specs.DefaultFileResults.{HasResult}
use Rattle.search.specs.ListingEntries.{listing_entry_view}
use Rattle.search.specs.Looked.{ListingLooksAt}
use Rattle.filetree.proofs.FailedPaths.{fails_then}
use Rattle.modules.specs.Answers.{is_failure, refused_read}
use Rattle.modules.proofs.FailureLemmas.{read_failure}
use Rattle.audit_laws.specs.site.Sites.{site_of, AreNamesBelow}
use Rattle.audit_site.specs.WalkLooked.{DirectoryLooksAt}
use Rattle.audit_site.proofs.FailureLemmas.{of_one_directory}
use Rattle.audit_site.proofs.ListingLemmas.{names_seen, last_listing}
use Rattle.audit_site.proofs.below.modules_below.Goals as goal

pub returns-in-Some-clause-listed : goal.returns-in-Some-clause-listed
returns-in-Some-clause-listed g c = λ alone files listings k.
    let a = c.args.settings in
    let dir = c.args.dir.now in
    let site = site_of a.limits a.env.now files listings in
    let listing = c.in-Some.listing in
    let its = last_listing (HasResult a.limits) files listings dir (directories dir) c.in_ok-listings.listings.items
    c.pop.new.self.items listing alone c.in-Some.ensures.items (c.in_ok-listings.ensures.listed files listings k) in
    subst (λ (names : List Text). AreNamesBelow site dir names) (names_seen listing.modules.items) (c.walks.ensures.names site dir (map listing_entry_view listing.modules.items) its)

pub returns-in_err-listings-clause-failed : goal.returns-in_err-listings-clause-failed
returns-in_err-listings-clause-failed g c =
    let a = c.args.settings in
    let dir = c.args.dir.now in
    let fault = c.in_err-listings.field-0.0 in
    let agrees = g.T.Tree.agrees c.available.new.tree in
    let p = err_from_is_err_and c.from_residual.result c.from_residual.ensures.1 in
    rw (p.1, p.2) (fails_then (is_device fault) (is_failure (refused_read fault)) (g.T.Tree.failed c.args.tree.now) (g.T.Tree.failed c.args.tree.now) (g.T.Tree.failed c.available.new.tree)
    (λ at. InEachPair agrees (λ files listings. ListingLooksAt (HasResult a.limits) files listings [] dir at))
    (λ at. InEachPair agrees (λ files listings. directories dir ≡ dir ∷ [] → DirectoryLooksAt (site_of a.limits a.env.now files listings) dir at)) refl (read_failure fault)
    (λ at h files listings k alone. of_one_directory (HasResult a.limits) files listings dir at alone (h files listings k)) c.in_err-listings.ensures.failed)

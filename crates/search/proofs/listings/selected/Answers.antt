use Rattle.std.proofs.lemmas.List.{drop_all}
use Rattle.std.proofs.lemmas.Result.{err_from_is_err_and}
use Rattle.std.proofs.Common.{◌≡◌, ℕ, true, Bor, List, [], ◌∷◌, ◌++◌, Option, get_or, map, refl, sym, ap, ◌∙◌, subst}
use Rattle.std.proofs.Common.{append-nil, string_bytes, vec_items, arith}
use Rattle.modulename.specs.ModuleName.{Text}
use Rattle.filetree.specs.Agreement.{Files, Listings, InEachPair, is_device}
use Rattle.filetree.specs.Modulefiles.{directories}
use Rattle.search.specs.DefaultVersions.{DefaultFileResult}
use Rattle.search.specs.Listed.{Listing, IsListing, AreListings}
use Rattle.search.specs.Looked.{LooksForListing, ListingLooksAt}
use Rattle.filetree.proofs.FailedPaths.{fails_then}
use Rattle.search.proofs.VersionLemmas.{has, first_of}
use Rattle.search.specs.ListingEntries.{listing_entry_view}
use Rattle.search.specs.Listings.{listing_view}
use Rattle.search.proofs.ListingLookLemmas.{first_has, later_has}
use Rattle.search.proofs.listings.selected.Goals as goal

nothing : Bor (List ℕ)
nothing = record { ref_ptr = (0, 0); now = [] }

-- the listing of the first of the directories from one on, before those of the others
listed_first : (results : Text → Text → Option DefaultFileResult → Type 0) (files : Files) (folders : Listings) (texts : List Text) (first : Text) (after rest : List Text) → rest ≡ first ∷ after
    → (l : Listing) → l.0 ≡ first → IsListing results files folders texts first l.1
    → (more : List Listing) → AreListings results files folders texts after more → AreListings results files folders texts rest (l ∷ more)
listed_first results files folders texts first after rest split l dir listing_entries more h =
    subst (λ dirs. AreListings results files folders texts dirs (l ∷ more)) (sym split) (dir, listing_entries, h)

pushed : {X Y : Type 0} (view : X → Y) (xs ys : List X) (x : X) → ys ≡ xs ++ x ∷ [] → (more : List Y) → map view xs ++ view x ∷ more ≡ map view ys ++ more
pushed view xs ys x e more = sym (ap (λ zs. map view zs ++ more) e ∙ at xs)
  where
    at : (zs : List _) → map view (zs ++ x ∷ []) ++ more ≡ map view zs ++ view x ∷ more
    at [] = refl
    at (z ∷ zs) = ap (λ ws. view z ∷ ws) (at zs)

pub returns-clause-listed : goal.returns-clause-listed
returns-clause-listed g c = λ files folders a.
    let results = g.D.DefaultFiles.results c.args.default_files.now in
    let texts = map string_bytes c.args.texts.now in
    let listings = map listing_view c.loop-dir.listings.items in
    subst (AreListings results files folders texts (directories c.args.modulepath.now)) (append-nil listings)
    (subst (λ dirs. AreListings results files folders texts dirs (listings ++ [])) (ap (map (λ dir. dir.now)) c.deref-dir-items.ensures.value ∙ c.in_ok-dirs.ensures)
    (c.loop-dir.invariant.so_far files folders a []
    (subst (λ rest. AreListings results files folders texts (map (λ dir. dir.now) rest) []) (sym (drop_all c.loop-dir.dir-index c.deref-dir-items.result.now c.loop-dir-test.false)) tt)))

pub returns-clause-failed : goal.returns-clause-failed
returns-clause-failed g c = c.loop-dir.invariant.unfailed

pub returns-in_err-from_str-clause-failed : goal.returns-in_err-from_str-clause-failed
returns-in_err-from_str-clause-failed g c =
    let p = err_from_is_err_and c.from_residual-in_err-from_str.result c.from_residual-in_err-from_str.ensures.1 in
    rw (p.1, p.2) (c.in_ok-modules.ensures.failed ∙ c.loop-dir.invariant.unfailed)

pub returns-in_err-push-clause-failed : goal.returns-in_err-push-clause-failed
returns-in_err-push-clause-failed g c =
    let p = err_from_is_err_and c.from_residual-in_err-push.result c.from_residual-in_err-push.ensures.1 in
    rw (p.1, p.2) (c.in_ok-modules.ensures.failed ∙ c.loop-dir.invariant.unfailed)

pub returns-in_err-modules-clause-failed : goal.returns-in_err-modules-clause-failed
unfolding nothing
returns-in_err-modules-clause-failed g c =
    let results = g.D.DefaultFiles.results c.args.default_files.now in
    let texts = map string_bytes c.args.texts.now in
    let modulepath = c.args.modulepath.now in
    let dirs = c.deref-dir-items.result.now in
    let i = c.loop-dir.dir-index in
    let dir = (get_or dirs i nothing).now in
    let agrees = g.T.Tree.agrees c.modules_of.new.tree in
    let fails = is_device c.in_err-modules.field-0.0 in
    let p = err_from_is_err_and c.from_residual-in_err-modules.result c.from_residual-in_err-modules.ensures.1 in
    let among : has dir (directories modulepath) ≡ true =
    ap (has dir) (sym (ap (map (λ dir. dir.now)) c.deref-dir-items.ensures.value ∙ c.in_ok-dirs.ensures))
    ∙ c.loop-dir.invariant.among dir (first_has _ _ _ (first_of (λ d. d.now) nothing dirs i c.loop-dir-test.true)) in
    rw (p.1, p.2) (fails_then fails fails (g.T.Tree.failed c.args.tree.now) (g.T.Tree.failed c.loop-dir.tree) (g.T.Tree.failed c.modules_of.new.tree)
    (λ at. InEachPair agrees (λ files folders. LooksForListing results files folders texts dir at))
    (λ at. InEachPair agrees (λ files folders. ListingLooksAt results files folders texts modulepath at)) c.loop-dir.invariant.unfailed refl
    (λ at h files folders a. (dir, among, h files folders a)) c.in_err-modules.ensures.failed)

pub loop-dir-preserved : goal.loop-dir-preserved
unfolding nothing
loop-dir-preserved g c = record {
  reads = record { narrows = λ files folders a. c.loop-dir.invariant.reads.narrows files folders (c.modules_of.ensures.narrows files folders a); counts_failures = omega arith };
  so_far = λ files folders a more h.
      let results = g.D.DefaultFiles.results c.args.default_files.now in
      let texts = map string_bytes c.args.texts.now in
      let b = c.modules_of.ensures.narrows files folders a in
      let listing : Listing = (string_bytes c.in_ok-from_str.field-0, map listing_entry_view (vec_items c.in_ok-modules.modules)) in
      subst (AreListings results files folders texts (map (λ d. d.now) c.deref-dir-items.result.now))
      (pushed listing_view c.loop-dir.listings.items c.push.new.self.items _ c.in_ok-push.ensures.items more)
      (c.loop-dir.invariant.so_far files folders b (listing ∷ more)
      (listed_first results files folders texts _ _ _ (first_of (λ d. d.now) nothing c.deref-dir-items.result.now c.loop-dir.dir-index c.loop-dir-test.true) listing c.in_ok-from_str.ensures.ok
      (c.in_ok-modules.ensures.answer files folders a) more h));
  unfailed = c.in_ok-modules.ensures.failed ∙ c.loop-dir.invariant.unfailed;
  among = λ d h. c.loop-dir.invariant.among d (later_has _ _ _ (first_of (λ dir. dir.now) nothing c.deref-dir-items.result.now c.loop-dir.dir-index c.loop-dir-test.true) d h);
}

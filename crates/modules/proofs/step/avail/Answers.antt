use Rattle.std.proofs.Common.{[], List, map, string_bytes, Ok, ap, ◌∙◌, subst, refl}
use Rattle.envvars.specs.Texts.{Text}
use Rattle.search.specs.Listed.{Listed}
use Rattle.search.specs.Listings.{listing_view}
use Rattle.search.specs.declared.listings.DirectoryListing as code
use Rattle.lookup.specs.DefaultFileResults.{HasResult}
use Rattle.requests.specs.Reports.{avail_text}
use Rattle.requests.specs.Steps.{nothing_done, with_report, modulepath}
use Rattle.filetree.specs.Agreement.{InEachPair, is_device}
use Rattle.std.proofs.lemmas.Result.{err_from_is_err_and}
use Rattle.search.specs.Looked.{ListingLooksAt}
use Rattle.filetree.proofs.FailedPaths.{fails_then}
use Rattle.modules.specs.Answers.{is_failure, refused_read}
use Rattle.modules.proofs.FailureLemmas.{read_failure}
use Rattle.modules.proofs.step.avail.Goals as goal

pub returns-clause-over_tree : goal.returns-clause-over_tree
returns-clause-over_tree g c = λ files listings a.
    let e = g.V.Vars.vars c.args.env.now in
    let ls = map listing_view c.in_ok-listings.listings.items in
    let texts = map string_bytes c.args.texts.now in (
      ls,
      subst (λ (path : Text). Listed (HasResult c.args.settings.limits) files listings texts path ls) c.modulepath.ensures (c.in_ok-listings.ensures.listed files listings a),
      ap Ok (c.done_with_report.ensures e ∙ ap (λ (t : Text). with_report (nothing_done e) [] t)
          (c.in_ok-text.ensures ∙ ap (λ (vs : List code.DirectoryListing). avail_text (map listing_view vs))
          c.as_slice.ensures.value)),
    )

pub returns-in_err-listings-clause-failed : goal.returns-in_err-listings-clause-failed
returns-in_err-listings-clause-failed g c =
    let p = err_from_is_err_and c.from_residual.result c.from_residual.ensures.1 in
    let fault = c.in_err-listings.field-0.0 in
    let results = HasResult c.args.settings.limits in
    let texts = map string_bytes c.args.texts.now in
    let before = g.T.Tree.failed c.args.tree.now in
    let agrees = g.T.Tree.agrees c.selected.new.tree in
    rw (p.1, p.2) (fails_then (is_device fault) (is_failure (refused_read fault)) before before (g.T.Tree.failed c.selected.new.tree)
    (λ at. InEachPair agrees (λ files listings. ListingLooksAt results files listings texts c.modulepath.result.now at))
    (λ at. InEachPair agrees (λ files listings. ListingLooksAt results files listings texts (modulepath (g.V.Vars.vars c.args.env.now)) at))
    refl (read_failure fault)
    (λ at h files listings a. subst (λ (path : Text). ListingLooksAt results files listings texts path at) c.modulepath.ensures (h files listings a)) c.in_err-listings.ensures.failed)

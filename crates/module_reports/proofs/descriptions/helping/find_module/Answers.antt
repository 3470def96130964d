use Rattle.std.proofs.Common.{◌<◌, Ok, Err, refl, subst}
use Rattle.std.proofs.lemmas.Result.{err_from_is_err_and}
use Rattle.lookup.specs.DefaultFileResults.{HasResult}
use Rattle.filetree.specs.Agreement.{InEachPair}
use Rattle.search.specs.Found.{Found}
use Rattle.search.specs.Answers.{cause_of, found_view}
use Rattle.requests.specs.Reasons.{missed}
use Rattle.requests.specs.Refusals.{RefusedAs}
use Rattle.requests.specs.Steps.{modulepath}
use Rattle.modules.proofs.StepLemmas.{search_stands}
use Rattle.module_reports.proofs.descriptions.helping.find_module.Goals as goal

pub returns-in_err-locate-clause-over_tree : goal.returns-in_err-locate-clause-over_tree
returns-in_err-locate-clause-over_tree g c =
    let p = err_from_is_err_and c.from_residual.result c.from_residual.ensures.1 in
    let fault = c.in_err-locate.field-0.0 in
    let results = HasResult c.args.limits in
    let typed = c.args.typed.now in
    let agrees = g.T.Tree.agrees c.locate.new.tree in
    rw (p.1, p.2) (search_stands (cause_of fault) (g.T.Tree.failures c.args.tree.now < g.T.Tree.failures c.locate.new.tree)
    (λ r. InEachPair agrees (λ files listings. Found results files listings c.modulepath.result.now typed (Err r)))
    (λ r. InEachPair agrees (λ files listings. RefusedAs missed (Found results files listings (modulepath c.args.env.now) typed) (Err r)))
    (λ r h files listings a. (Err r, subst (λ path. Found results files listings path typed (Err r)) c.modulepath.ensures (h files listings a), refl))
    c.in_err-locate.ensures.over_tree)

pub returns-clause-over_tree : goal.returns-clause-over_tree
returns-clause-over_tree g c = λ files listings a. (
  Ok (found_view c.in_ok-locate.field-0),
  subst (λ path. Found (HasResult c.args.limits) files listings path c.args.typed.now (Ok (found_view c.in_ok-locate.field-0))) c.modulepath.ensures
      (c.in_ok-locate.ensures.over_tree files listings a),
  refl,
)

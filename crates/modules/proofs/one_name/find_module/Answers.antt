use Rattle.std.proofs.Common.{◌<◌, Ok, Err, refl, subst}
use Rattle.std.proofs.lemmas.Result.{err_from_is_err_and}
use Rattle.lookup.specs.DefaultFileResults.{HasResult}
use Rattle.search.specs.Found.{Found}
use Rattle.search.specs.Answers.{cause_of, found_view, is_failure}
use Rattle.modules.proofs.StepLemmas.{search_stands}
use Rattle.filetree.specs.Agreement.{InEachPair}
use Rattle.filetree.proofs.FailedPaths.{fails_then}
use Rattle.search.specs.Looked.{LooksAt}
use Rattle.requests.specs.Steps.{modulepath}
use Rattle.modules.specs.declared.refusal.Refusal.TheVariants.{Find}
use Rattle.modules.specs.Answers.{is_failure as refused}
use Rattle.modules.proofs.FailureLemmas.{found_failure}
use Rattle.modules.proofs.one_name.find_module.Goals as goal

pub returns-in_err-locate : goal.returns-in_err-locate
returns-in_err-locate g c =
    let p = err_from_is_err_and c.from_residual.result c.from_residual.ensures.1 in
    let fault = c.in_err-locate.field-0.0 in
    let results = HasResult c.args.name_request.settings.limits in
    let typed = c.args.name_request.typed.now in
    let before = g.T.Tree.failed c.args.tree.now in
    let agrees = g.T.Tree.agrees c.locate.new.tree in
    rw (p.1, p.2) (record {
      reads = c.locate.ensures.reads;
      over_tree = search_stands (cause_of fault) (g.T.Tree.failures c.args.tree.now < g.T.Tree.failures c.locate.new.tree) _ _
          (λ r h files listings a. (Err r, subst (λ path. Found results files listings path typed (Err r)) c.modulepath.ensures (h files listings a), refl))
          c.in_err-locate.ensures.over_tree;
      failed_at = fails_then (is_failure fault) (refused (Find fault)) before before (g.T.Tree.failed c.locate.new.tree)
          (λ at. InEachPair agrees (λ files listings. LooksAt results files listings c.modulepath.result.now typed at))
          (λ at. InEachPair agrees (λ files listings. LooksAt results files listings (modulepath (g.V.Vars.vars c.args.env.now)) typed at))
          refl (found_failure fault)
          (λ at h files listings a. subst (λ path. LooksAt results files listings path typed at) c.modulepath.ensures (h files listings a)) c.in_err-locate.ensures.failed;
    })

pub returns : goal.returns
returns g c = record {
  reads = c.locate.ensures.reads;
  over_tree = λ files listings a. (
    Ok (found_view c.in_ok-locate.field-0),
    subst (λ path. Found (HasResult c.args.name_request.settings.limits) files listings path
        c.args.name_request.typed.now (Ok (found_view c.in_ok-locate.field-0))) c.modulepath.ensures
        (c.in_ok-locate.ensures.over_tree files listings a),
    refl,
  );
  failed_at = c.in_ok-locate.ensures.failed;
}

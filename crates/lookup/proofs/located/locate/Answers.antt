use Rattle.std.proofs.Common.{◌<◌, Ok, Err, refl}
use Rattle.std.proofs.lemmas.Result.{err_from_is_err_and}
use Rattle.lookup.specs.DefaultFileResults.{HasResult}
use Rattle.search.specs.Found.{Found}
use Rattle.search.specs.Answers.{found_view}
use Rattle.search.proofs.StepLemmas.{over_tree_fault}
use Rattle.lookup.specs.Located.{Located}
use Rattle.lookup.specs.LocatedViews.{located_module_view}
use Rattle.lookup.proofs.located.locate.Goals as goal

pub returns-in_err-module-clause-over_tree : goal.returns-in_err-module-clause-over_tree
returns-in_err-module-clause-over_tree g c =
    let results = HasResult c.args.limits in
    let modulepath = c.args.modulepath.now in
    let name = c.args.name.now in
    let rose = g.T.Tree.failures c.args.tree.now < g.T.Tree.failures c.locate.new.tree in
    let p = err_from_is_err_and c.from_residual.result c.from_residual.ensures.1 in
    rw (p.1, p.2) (over_tree_fault (g.T.Tree.agrees c.locate.new.tree) rose rose found_view located_module_view
    (λ files folders. Found results files folders modulepath name) (λ files folders. Located results files folders modulepath name)
    c.in_err-module.field-0.0 (λ q. q) (λ files folders r a h. (Err r, h, refl)) c.in_err-module.ensures.over_tree)

pub returns-clause-over_tree : goal.returns-clause-over_tree
returns-clause-over_tree g c = λ files folders a. (Ok (found_view c.in_ok-module.module), c.in_ok-module.ensures.over_tree files folders a, refl)

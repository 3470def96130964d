use Rattle.std.proofs.Common.{option_map, arith, refl, ◌∙◌}
use Rattle.std.proofs.lemmas.Result.{err_from_is_err_and}
use Rattle.filetree.specs.Agreement.{is_device}
use Rattle.filetree.proofs.FailedPaths.{fails_then}
use Rattle.module_reports.specs.listings.Along.{IsFolder}
use Rattle.module_reports.proofs.listings.AlongLemmas.{names_more}
use Rattle.module_reports.proofs.listings.along.names_along.Goals as goal

pub loop-directory-preserved : goal.loop-directory-preserved
loop-directory-preserved g c = record {
  narrows = λ files listings a. c.loop-directory.invariant.narrows files listings (c.names_below.ensures.narrows files listings a);
  counts = omega arith;
  failed = c.in_ok-below.ensures.failed ∙ c.loop-directory.invariant.failed;
  names = λ files listings a. names_more listings (option_map (λ f. f.now) c.args.folder) c.args.directories.now c.loop-directory.directory-index _ c.loop-directory-test.true
      c.loop-directory.names c.append.new.self c.unwrap_or-below.result c.new.result c.in_ok-below.below c.unwrap_or-below.ensures c.new.ensures.items c.in_ok-append.ensures.items
      (c.loop-directory.invariant.names files listings (c.names_below.ensures.narrows files listings a)) (c.in_ok-below.ensures.names files listings a);
}

pub returns-in_err-below-clause-failed : goal.returns-in_err-below-clause-failed
returns-in_err-below-clause-failed g c =
    let fails = is_device c.in_err-below.field-0.0 in
    let p = err_from_is_err_and c.from_residual.result c.from_residual.ensures.1 in
    rw (p.1, p.2) (fails_then fails fails (g.T.Tree.failed c.args.tree.now) (g.T.Tree.failed c.loop-directory.tree) (g.T.Tree.failed c.names_below.new.tree)
    _ (IsFolder (option_map (λ f. f.now) c.args.folder)) c.loop-directory.invariant.failed refl (λ at e. (_, e)) c.in_err-below.ensures.failed)

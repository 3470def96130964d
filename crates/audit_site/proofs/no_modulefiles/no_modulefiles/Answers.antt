use Rattle.std.proofs.Common.{map, string_bytes, refl, ◌∙◌, subst, arith}
use Rattle.std.proofs.lemmas.Result.{err_from_is_err_and}
use Rattle.modulename.specs.ModuleName.{Text}
use Rattle.filetree.specs.Agreement.{InEachPair, is_device}
use Rattle.filetree.proofs.FailedPaths.{fails_then}
use Rattle.audit_site.specs.FilesBelow.{IsFoundBelow, LooksAtAny, LooksAtBelow, Adds}
use Rattle.audit_site.proofs.PathSets.{sorted_bytes}
use Rattle.audit_site.proofs.FilesBelow.{among_at, begun, directory_more, whole_are}
use Rattle.audit_site.proofs.no_modulefiles.no_modulefiles.Goals as goal

pub loop-dir-init : goal.loop-dir-init
loop-dir-init g c = record {
  reads = record { narrows = λ files listings k. k; counts_failures = omega arith };
  found = λ files listings k q. begun files listings c.new-found.result q c.new-found.ensures.empty;
  unfailed = refl;
}

pub loop-dir-preserved : goal.loop-dir-preserved
loop-dir-preserved g c = record {
  reads = record { narrows = λ files listings k. c.loop-dir.invariant.reads.narrows files listings (c.add_below.ensures.narrows files listings k); counts_failures = omega arith };
  found = λ files listings k q.
      directory_more files listings c.args.dirs.now c.loop-dir.dir-index c.dir-item.result c.loop-dir.found c.add_below.new.found q c.loop-dir-test.true c.dir-item.is
      (c.loop-dir.invariant.found files listings (c.add_below.ensures.narrows files listings k) q)
      (subst (λ (d : Text). Adds c.loop-dir.found c.add_below.new.found (IsFoundBelow files listings 4 d)) c.as_str.ensures.value (c.in_ok-add_below.ensures.added files listings k));
  unfailed = c.in_ok-add_below.ensures.failed ∙ c.loop-dir.invariant.unfailed;
}

pub returns-clause-answer : goal.returns-clause-answer
returns-clause-answer g c = λ files listings k. record {
  order = sorted_bytes c.in_ok-in_order.field-0.items c.in_ok-in_order.ensures.order;
  exact = λ q.
      whole_are files listings c.args.dirs.now c.loop-dir.dir-index c.loop-dir.found c.in_ok-in_order.field-0.items q c.loop-dir-test.false c.in_ok-in_order.ensures.keys
      (c.loop-dir.invariant.found files listings k q);
}

pub returns-in_err-add_below-clause-failed : goal.returns-in_err-add_below-clause-failed
returns-in_err-add_below-clause-failed g c =
    let fails = is_device c.in_err-add_below.field-0.0 in
    let agrees = g.T.Tree.agrees c.add_below.new.tree in
    let p = err_from_is_err_and c.from_residual.result c.from_residual.ensures.1 in
    rw (p.1, p.2) (fails_then fails fails (g.T.Tree.failed c.args.tree.now) (g.T.Tree.failed c.loop-dir.tree) (g.T.Tree.failed c.add_below.new.tree)
    (λ at. InEachPair agrees (λ files listings. LooksAtBelow listings 4 c.as_str.result.now at))
    (λ at. InEachPair agrees (λ files listings. LooksAtAny listings (map string_bytes c.args.dirs.now) at)) c.loop-dir.invariant.unfailed refl
    (λ at h files listings k. (
      string_bytes c.dir-item.result,
      among_at c.args.dirs.now c.loop-dir.dir-index c.dir-item.result c.loop-dir-test.true c.dir-item.is,
      subst (λ (d : Text). LooksAtBelow listings 4 d at) c.as_str.ensures.value (h files listings k),
    ))
    c.in_err-add_below.ensures.failed)

pub returns-clause-failed : goal.returns-clause-failed
returns-clause-failed g c = c.loop-dir.invariant.unfailed

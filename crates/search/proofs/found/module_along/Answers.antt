use Rattle.std.proofs.Common.{◌<◌, ◌+◌, ◌∙◌, List, drop, [], ℕ, Bor, get_or, map, option_map, Ok, Err, refl, sym, subst}
use Rattle.std.proofs.Common.{arith}
use Rattle.std.proofs.lemmas.Result.{err_from_is_err_and}
use Rattle.filetree.specs.Agreement.{InEachPair}
use Rattle.search.specs.Found.{FoundAlong}
use Rattle.search.specs.Looked.{LooksBelow, LooksAlong}
use Rattle.search.specs.Answers.{found_view, is_failure}
use Rattle.search.specs.Steps.{FoundBelow}
use Rattle.filetree.proofs.FailedPaths.{fails_then}
use Rattle.search.proofs.LookLemmas.{looks_here, looks_after}
use Rattle.search.proofs.StepLemmas.{over_tree_fault, Continues, along_rest}
use Rattle.search.proofs.VersionLemmas.{first_of}
use Rattle.search.proofs.found.module_along.Goals as goal

nothing : Bor (List ℕ)
nothing = record { ref_ptr = (0, 0); now = [] }

pub returns-in_err-found-clause-over_tree : goal.returns-in_err-found-clause-over_tree
unfolding nothing
returns-in_err-found-clause-over_tree g c =
    let results = g.D.DefaultFiles.results c.args.default_files.now in
    let name = c.args.name.now in
    let p = err_from_is_err_and c.from_residual.result c.from_residual.ensures.1 in
    rw (p.1, p.2) (over_tree_fault (g.T.Tree.agrees c.module_below.new.tree)
    (g.T.Tree.failures c.loop-dir.tree < g.T.Tree.failures c.module_below.new.tree) (g.T.Tree.failures c.args.tree.now < g.T.Tree.failures c.module_below.new.tree)
    (option_map found_view) found_view
    (λ files listings. FoundBelow results files listings (get_or c.args.dirs.now c.loop-dir.dir-index nothing).now name)
    (λ files listings. FoundAlong results files listings name (map (λ dir. dir.now) c.args.dirs.now)) c.in_err-found.field-0.0 (λ q. omega arith)
    (λ files listings r a h. c.loop-dir.invariant.none_yet files listings (c.module_below.ensures.reads.narrows files listings a) (Err r)
    (along_rest results files listings name _ _ _ (first_of (λ dir. dir.now) nothing c.args.dirs.now c.loop-dir.dir-index c.loop-dir-test.true) (Err r) (Err r) h refl))
    c.in_err-found.ensures.over_tree)

pub returns-in-Some-clause-over_tree : goal.returns-in-Some-clause-over_tree
unfolding nothing
returns-in-Some-clause-over_tree g c = λ files listings a.
    let results = g.D.DefaultFiles.results c.args.default_files.now in
    let name = c.args.name.now in
    let found = Ok (found_view c.in-Some.found) in
    c.loop-dir.invariant.none_yet files listings (c.module_below.ensures.reads.narrows files listings a) found
    (along_rest results files listings name _ _ _ (first_of (λ dir. dir.now) nothing c.args.dirs.now c.loop-dir.dir-index c.loop-dir-test.true) (Ok (option_map found_view c.in_ok-found.field-0)) found
    (c.in_ok-found.ensures.over_tree files listings a)
    (subst (λ m. Continues results files listings name
    (map (λ (dir : Bor (List ℕ)). dir.now) (drop (c.loop-dir.dir-index + 1) c.args.dirs.now))
    (Ok (option_map found_view m)) found) (sym c.in-Some.is) refl))

pub loop-dir-preserved : goal.loop-dir-preserved
unfolding nothing
loop-dir-preserved g c = record {
  reads = record { narrows = λ files listings a. c.loop-dir.invariant.reads.narrows files listings (c.module_below.ensures.reads.narrows files listings a); counts_failures = omega arith };
  none_yet = λ files listings a o k.
      let results = g.D.DefaultFiles.results c.args.default_files.now in
      let name = c.args.name.now in
      c.loop-dir.invariant.none_yet files listings (c.module_below.ensures.reads.narrows files listings a) o
      (along_rest results files listings name _ _ _ (first_of (λ dir. dir.now) nothing c.args.dirs.now c.loop-dir.dir-index c.loop-dir-test.true) (Ok (option_map found_view c.in_ok-found.field-0)) o
      (c.in_ok-found.ensures.over_tree files listings a)
      (subst (λ m. Continues results files listings name
      (map (λ (dir : Bor (List ℕ)). dir.now) (drop (c.loop-dir.dir-index + 1) c.args.dirs.now))
      (Ok (option_map found_view m)) o) (sym c.in_default.is) k));
  unfailed = c.in_ok-found.ensures.failed ∙ c.loop-dir.invariant.unfailed;
  looked = λ files listings a at h.
      let results = g.D.DefaultFiles.results c.args.default_files.now in
      let name = c.args.name.now in
      c.loop-dir.invariant.looked files listings (c.module_below.ensures.reads.narrows files listings a) at
      (looks_after results files listings name _ _ _ (first_of (λ dir. dir.now) nothing c.args.dirs.now c.loop-dir.dir-index c.loop-dir-test.true) at
      (subst (λ m. FoundBelow results files listings (get_or c.args.dirs.now c.loop-dir.dir-index nothing).now name
      (Ok (option_map found_view m))) c.in_default.is (c.in_ok-found.ensures.over_tree files listings a)) h);
}

pub returns-in_err-found-clause-failed : goal.returns-in_err-found-clause-failed
unfolding nothing
returns-in_err-found-clause-failed g c =
    let results = g.D.DefaultFiles.results c.args.default_files.now in
    let name = c.args.name.now in
    let agrees = g.T.Tree.agrees c.module_below.new.tree in
    let fails = is_failure c.in_err-found.field-0.0 in
    let p = err_from_is_err_and c.from_residual.result c.from_residual.ensures.1 in
    rw (p.1, p.2) (fails_then fails fails (g.T.Tree.failed c.args.tree.now) (g.T.Tree.failed c.loop-dir.tree) (g.T.Tree.failed c.module_below.new.tree)
    (λ at. InEachPair agrees (λ files listings. LooksBelow results files listings (get_or c.args.dirs.now c.loop-dir.dir-index nothing).now name at))
    (λ at. InEachPair agrees (λ files listings. LooksAlong results files listings name (map (λ dir. dir.now) c.args.dirs.now) at))
    c.loop-dir.invariant.unfailed refl
    (λ at h files listings a. c.loop-dir.invariant.looked files listings (c.module_below.ensures.reads.narrows files listings a) at
    (looks_here results files listings name _ _ _ (first_of (λ dir. dir.now) nothing c.args.dirs.now c.loop-dir.dir-index c.loop-dir-test.true) at (h files listings a)))
    c.in_err-found.ensures.failed)

pub returns-in-Some-clause-failed : goal.returns-in-Some-clause-failed
returns-in-Some-clause-failed g c = c.in_ok-found.ensures.failed ∙ c.loop-dir.invariant.unfailed

pub returns-in_err-from_str-clause-failed : goal.returns-in_err-from_str-clause-failed
returns-in_err-from_str-clause-failed g c =
    let p = err_from_is_err_and c.from_residual-in_err-from_str.result c.from_residual-in_err-from_str.ensures.1 in
    rw (p.1, p.2) c.loop-dir.invariant.unfailed

pub returns-clause-failed : goal.returns-clause-failed
returns-clause-failed g c = c.loop-dir.invariant.unfailed

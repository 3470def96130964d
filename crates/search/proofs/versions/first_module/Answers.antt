use Rattle.std.proofs.Common.{◌≡◌, List, ℕ, Bor, [], get_or, map, refl, ◌∙◌, arith}
use Rattle.std.proofs.lemmas.Result.{err_from_is_err_and}
use Rattle.filetree.specs.Agreement.{InEachPair, is_device}
use Rattle.filetree.specs.Modulefiles.{path_of}
use Rattle.search.specs.Versions.{is_module_in, LooksFromGreatest}
use Rattle.filetree.proofs.FailedPaths.{fails_then}
use Rattle.search.proofs.VersionLemmas.{first_of, find_later, looks_first, looks_later}
use Rattle.search.proofs.versions.first_module.Goals as goal

nothing : Bor (List ℕ)
nothing = record { ref_ptr = (0, 0); now = [] }

pub loop-version-preserved : goal.loop-version-preserved
unfolding nothing
loop-version-preserved g c = record {
  reads = record { narrows = λ files listings a. c.loop-version.invariant.reads.narrows files listings (c.is_module_in.ensures.narrows files listings a); counts_failures = omega arith };
  none_yet = λ files listings a.
      c.loop-version.invariant.none_yet files listings (c.is_module_in.ensures.narrows files listings a)
      ∙ find_later (is_module_in files c.args.dir.now c.args.name.now) _ _ _ (first_of (λ v. v.now) nothing c.args.versions.now c.loop-version.version-index c.loop-version-test.true)
      (c.in_ok-is_module_in.ensures.answer files listings a ∙ c.if-branch.false);
  unfailed = c.in_ok-is_module_in.ensures.failed ∙ c.loop-version.invariant.unfailed;
  looked = λ files listings a at h.
      c.loop-version.invariant.looked files listings (c.is_module_in.ensures.narrows files listings a) at
      (looks_later files c.args.dir.now c.args.name.now _ _ _ (first_of (λ v. v.now) nothing c.args.versions.now c.loop-version.version-index c.loop-version-test.true) at
      (c.in_ok-is_module_in.ensures.answer files listings a ∙ c.if-branch.false) h);
}

pub returns-in_err-is_module_in-clause-failed : goal.returns-in_err-is_module_in-clause-failed
unfolding nothing
returns-in_err-is_module_in-clause-failed g c =
    let dir = c.args.dir.now in
    let name = c.args.name.now in
    let versions = c.args.versions.now in
    let i = c.loop-version.version-index in
    let p = err_from_is_err_and c.from_residual.result c.from_residual.ensures.1 in
    rw (p.1, p.2) (fails_then (is_device c.in_err-is_module_in.field-0.0) (is_device c.in_err-is_module_in.field-0.0)
    (g.T.Tree.failed c.args.tree.now) (g.T.Tree.failed c.loop-version.tree) (g.T.Tree.failed c.is_module_in.new.tree)
    (λ at. at ≡ path_of dir (path_of name (get_or versions i nothing).now))
    (λ at. InEachPair (g.T.Tree.agrees c.is_module_in.new.tree) (λ files listings. LooksFromGreatest files dir name (map (λ v. v.now) versions) at))
    c.loop-version.invariant.unfailed refl
    (λ at e files listings a. c.loop-version.invariant.looked files listings (c.is_module_in.ensures.narrows files listings a) at
    (looks_first files dir name _ _ _ (first_of (λ v. v.now) nothing versions i c.loop-version-test.true) at e))
    c.in_err-is_module_in.ensures.failed)

pub returns-in_err-from_str-clause-failed : goal.returns-in_err-from_str-clause-failed
returns-in_err-from_str-clause-failed g c =
    let p = err_from_is_err_and c.from_residual-in_err-from_str.result c.from_residual-in_err-from_str.ensures.1 in
    rw (p.1, p.2) (c.in_ok-is_module_in.ensures.failed ∙ c.loop-version.invariant.unfailed)

pub returns-then-branch-clause-failed : goal.returns-then-branch-clause-failed
returns-then-branch-clause-failed g c = c.in_ok-is_module_in.ensures.failed ∙ c.loop-version.invariant.unfailed

pub returns-clause-failed : goal.returns-clause-failed
returns-clause-failed g c = c.loop-version.invariant.unfailed

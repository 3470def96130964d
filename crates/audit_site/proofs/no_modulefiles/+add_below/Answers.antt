use Rattle.std.proofs.Common.{◌≡◌, ◌⊎◌, ◌+◌, ◌-◌, true, List, [], map, take, string_bytes, String, Global, refl, ap, ◌∙◌, inl}
use Rattle.std.proofs.Common.{subst, arith, rules}
use Rattle.std.proofs.lemmas.List.{take_all}
use Rattle.std.proofs.lemmas.Result.{err_from_is_err_and}
use Rattle.modulename.specs.ModuleName.{Text}
use Rattle.filetree.specs.Agreement.{InEachPair, is_device}
use Rattle.filetree.proofs.FailedPaths.{fails_then}
use Rattle.audit_site.specs.FilesBelow.{lacks_cookie_at, Adds, IsBelowBy, IsInBy, IsFoundBelow, LooksAtBelow, paths_in}
use Rattle.audit_site.proofs.PathSets.{adds_none, adds_same, adds_more}
use Rattle.audit_site.proofs.FilesBelow.{in_next, in_none, below_are, found_nowhere, at_next, looks_next}
use Rattle.audit_site.proofs.no_modulefiles.+add_below.Goals as goal

pub returns-then-levels-eq0-clause-added : goal.returns-then-levels-eq0-clause-added
returns-then-levels-eq0-clause-added g t c = λ files listings k.
    adds_none c.args.found.now (IsFoundBelow files listings c.args.levels c.args.folder.now)
    (λ q h. found_nowhere listings c.args.levels c.args.folder.now q c.if-levels-eq0.true h.0)

pub loop-path-init : goal.loop-path-init
loop-path-init g t c = record {
  reads = record { narrows = λ files listings k. k; counts_failures = omega arith };
  found = λ files listings k. adds_none c.args.found.now (λ q. IsInBy listings (c.args.levels - 1) [] q × (lacks_cookie_at files q ≡ true)) (λ q h. in_none listings (c.args.levels - 1) q h.0);
  unfailed = refl;
}

pub loop-path-preserved : goal.loop-path-preserved
loop-path-preserved g t c =
    let items = c.deref-path-items.result.now in
    let i = c.loop-path.path-index in
    let n = c.args.levels - 1 in
    let x = string_bytes c.path-item.result in
    let at = c.as_str-path.result.now in
    let is : at ≡ x = c.as_str-path.ensures.value in record {
      reads = record {
        narrows = λ files listings k. c.loop-path.invariant.reads.narrows files listings (c.add_file.ensures.narrows files listings (c.add_below.ensures.narrows files listings k));
        counts_failures = omega arith;
      };
      found = λ files listings k.
          let there = λ (q : Text). lacks_cookie_at files q ≡ true in
          let j = c.add_below.ensures.narrows files listings k in
          let before = c.loop-path.invariant.found files listings (c.add_file.ensures.narrows files listings j) in
          let one = c.in_ok-add_file.ensures.added files listings j in
          let below = c.in_ok-add_below.ensures.added files listings k in
          adds_more c.args.found.now c.loop-path.found c.add_below.new.found
          (λ q. IsInBy listings n (map string_bytes (take i items)) q × there q) (λ q. ((q ≡ x) ⊎ IsBelowBy listings n x q) × there q)
          (λ q. IsInBy listings n (map string_bytes (take (i + 1) items)) q × there q)
          (λ q. at_next (IsInBy listings n (map string_bytes (take (i + 1) items)) q) (IsInBy listings n (map string_bytes (take i items)) q) ((q ≡ x) ⊎ IsBelowBy listings n x q) (there q)
          (in_next listings n items i c.path-item.result c.loop-path-test.true c.path-item.is q))
          before
          (adds_more c.loop-path.found c.add_file.new.found c.add_below.new.found (λ q. (q ≡ x) × there q) (λ q. IsBelowBy listings n x q × there q) (λ q. ((q ≡ x) ⊎ IsBelowBy listings n x q) × there q)
          (λ q. at_next ((q ≡ x) ⊎ IsBelowBy listings n x q) (q ≡ x) (IsBelowBy listings n x q) (there q) ((λ h. h), (λ h. h)))
          (subst (λ (p : Text). Adds c.loop-path.found c.add_file.new.found (λ q. (q ≡ p) × there q)) is one)
          (subst (λ (p : Text). Adds c.add_file.new.found c.add_below.new.found (λ q. IsBelowBy listings n p q × there q)) is below));
      unfailed = c.in_ok-add_below.ensures.failed ∙ (c.in_ok-add_file.ensures.failed ∙ c.loop-path.invariant.unfailed);
    }

pub returns-clause-added : goal.returns-clause-added
returns-clause-added g t c = λ files listings k.
    let items = c.deref-path-items.result.now in
    let n = c.args.levels - 1 in
    let there = λ (q : Text). lacks_cookie_at files q ≡ true in
    let paths : map string_bytes items ≡ paths_in listings c.args.folder.now =
    ap (λ (xs : List (String Global)). map string_bytes xs) c.deref-path-items.ensures.value ∙ c.in_ok-paths.ensures.answer files listings (c.loop-path.invariant.reads.narrows files listings k) in
    let all = ap (λ (xs : List (String Global)). map string_bytes xs) (take_all c.loop-path.path-index items c.loop-path-test.false) ∙ paths in
    adds_same c.args.found.now c.loop-path.found (λ q. IsInBy listings n (map string_bytes (take c.loop-path.path-index items)) q × there q)
    (IsFoundBelow files listings c.args.levels c.args.folder.now)
    (λ q. let same = below_are listings c.args.levels c.args.folder.now q (map string_bytes (take c.loop-path.path-index items)) c.if-levels-eq0.false all in
    ((λ h. (same.0 h.0, h.1)), (λ h. (same.1 h.0, h.1))))
    (c.loop-path.invariant.found files listings k)

pub returns-clause-narrows : goal.returns-clause-narrows
returns-clause-narrows g t c = λ files listings k. c.paths_in.ensures.narrows files listings (c.loop-path.invariant.reads.narrows files listings k)

pub returns-clause-failed : goal.returns-clause-failed
returns-clause-failed g t c = c.loop-path.invariant.unfailed ∙ c.in_ok-paths.ensures.failed

pub returns-in_err-paths-clause-failed : goal.returns-in_err-paths-clause-failed
returns-in_err-paths-clause-failed g t c =
    let fails = is_device c.in_err-paths.field-0.0 in
    let agrees = g.T.Tree.agrees c.paths_in.new.tree in
    let p = err_from_is_err_and c.from_residual.result c.from_residual.ensures.1 in
    rw (p.1, p.2) (fails_then fails fails (g.T.Tree.failed c.args.tree.now) (g.T.Tree.failed c.args.tree.now) (g.T.Tree.failed c.paths_in.new.tree)
    (λ at. at ≡ c.args.folder.now) (λ at. InEachPair agrees (λ files listings. LooksAtBelow listings c.args.levels c.args.folder.now at)) refl refl
    (λ at e files listings k. inl e) c.in_err-paths.ensures.failed)

pub returns-in_err-add_file-clause-failed : goal.returns-in_err-add_file-clause-failed
returns-in_err-add_file-clause-failed g t c =
    let items = c.deref-path-items.result.now in
    let fails = is_device c.in_err-add_file.field-0.0 in
    let agrees = g.T.Tree.agrees c.add_file.new.tree in
    let p = err_from_is_err_and c.from_residual-in_err-add_file.result c.from_residual-in_err-add_file.ensures.1 in
    rw (p.1, p.2) (fails_then fails fails (g.T.Tree.failed c.args.tree.now) (g.T.Tree.failed c.loop-path.tree) (g.T.Tree.failed c.add_file.new.tree)
    (λ at. at ≡ c.as_str-path.result.now) (λ at. InEachPair agrees (λ files listings. LooksAtBelow listings c.args.levels c.args.folder.now at))
    (c.loop-path.invariant.unfailed ∙ c.in_ok-paths.ensures.failed) refl
    (λ at e files listings k.
    looks_next listings c.args.levels c.args.folder.now items c.loop-path.path-index c.path-item.result at c.if-levels-eq0.false
    (ap (λ (xs : List (String Global)). map string_bytes xs) c.deref-path-items.ensures.value
    ∙ c.in_ok-paths.ensures.answer files listings (c.loop-path.invariant.reads.narrows files listings (c.add_file.ensures.narrows files listings k)))
    c.loop-path-test.true c.path-item.is (inl (e ∙ c.as_str-path.ensures.value)))
    c.in_err-add_file.ensures.failed)

pub returns-in_err-add_below-clause-failed : goal.returns-in_err-add_below-clause-failed
returns-in_err-add_below-clause-failed g t c =
    let items = c.deref-path-items.result.now in
    let fails = is_device c.in_err-add_below.field-0.0 in
    let agrees = g.T.Tree.agrees c.add_below.new.tree in
    let p = err_from_is_err_and c.from_residual-in_err-add_below.result c.from_residual-in_err-add_below.ensures.1 in
    rw (p.1, p.2) (fails_then fails fails (g.T.Tree.failed c.args.tree.now) (g.T.Tree.failed c.add_file.new.tree) (g.T.Tree.failed c.add_below.new.tree)
    (λ at. InEachPair agrees (λ files listings. LooksAtBelow listings (c.args.levels - 1) c.as_str-path.result.now at))
    (λ at. InEachPair agrees (λ files listings. LooksAtBelow listings c.args.levels c.args.folder.now at))
    (c.in_ok-add_file.ensures.failed ∙ (c.loop-path.invariant.unfailed ∙ c.in_ok-paths.ensures.failed)) refl
    (λ at h files listings k.
    looks_next listings c.args.levels c.args.folder.now items c.loop-path.path-index c.path-item.result at c.if-levels-eq0.false
    (ap (λ (xs : List (String Global)). map string_bytes xs) c.deref-path-items.ensures.value
    ∙ c.in_ok-paths.ensures.answer files listings (c.loop-path.invariant.reads.narrows files listings (c.add_file.ensures.narrows files listings (c.add_below.ensures.narrows files listings k))))
    c.loop-path-test.true c.path-item.is
    (subst (λ (p : Text). LooksAtBelow listings (c.args.levels - 1) p at) c.as_str-path.ensures.value (h files listings k)))
    c.in_err-add_below.ensures.failed)

pub returns-clause-cause : goal.returns-clause-cause
returns-clause-cause g t c = record { counts_failures = omega arith; device = search rules }

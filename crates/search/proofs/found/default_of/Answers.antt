use Rattle.std.proofs.Common.{◌≡◌, ◌∙◌, true, false, map, option_map, string_bytes, inl, inr, refl, subst, sym}
use Rattle.std.specs.List.{list_any}
use Rattle.std.proofs.lemmas.Result.{err_from_is_err_and}
use Rattle.filetree.specs.Agreement.{InEachPair, is_device}
use Rattle.search.specs.Answers.{fault_of_tree}
use Rattle.filetree.specs.declared.tree.TreeFault.{TreeFault}
use Rattle.filetree.specs.declared.tree.TreeFault.TheVariants.{OutOfMemory, Device}
use Rattle.search.specs.Reasons.{bad_default}
use Rattle.search.specs.Found.{NamedDefault}
use Rattle.search.specs.Looked.{LooksForNamed, LooksInFolder}
use Rattle.search.specs.Candidates.{LooksForGreatest}
use Rattle.search.specs.Answers.{is_failure}
use Rattle.search.specs.VersionsNamed.{named_version_view}
use Rattle.search.specs.Versions.{IsGreatestOf, is_version}
use Rattle.search.proofs.StepLemmas.{default_named, default_greatest, default_bad, default_none}
use Rattle.filetree.proofs.FailedPaths.{fails_then}
use Rattle.search.proofs.VersionLemmas.{no_candidates, some_version}
use Rattle.search.proofs.found.default_of.Goals as goal

-- a failure of the tree is one of the search
same_failure : (fault : TreeFault) → is_device fault ≡ is_failure (fault_of_tree fault)
same_failure OutOfMemory = refl
same_failure Device = refl

pub returns-in-Version-clause-over_tree : goal.returns-in-Version-clause-over_tree
returns-in-Version-clause-over_tree g c = λ files listings agree.
    let results = g.D.DefaultFiles.results c.args.default_files.now in
    let dir = c.args.dir.now in
    let name = c.args.name.now in
    default_named results files listings dir name (string_bytes c.in-Version.version)
    (subst (λ m. NamedDefault results files listings dir name (named_version_view m)) c.in-Version.is (c.in_ok-version.ensures.answer files listings agree))

pub returns-in_ok-greatest_candidate-in-Nothing-clause-over_tree : goal.returns-in_ok-greatest_candidate-in-Nothing-clause-over_tree
returns-in_ok-greatest_candidate-in-Nothing-clause-over_tree g c = λ files listings agree.
    let results = g.D.DefaultFiles.results c.args.default_files.now in
    let dir = c.args.dir.now in
    let name = c.args.name.now in
    default_greatest results files listings dir name (option_map string_bytes c.in_ok-greatest_candidate-in-Nothing.field-0)
    (subst (λ m. NamedDefault results files listings dir name (named_version_view m)) c.in-Nothing.is
    (c.in_ok-version.ensures.answer files listings (c.greatest_candidate.ensures.narrows files listings agree)))
    (c.in_ok-greatest_candidate-in-Nothing.ensures.answer files listings agree)

pub returns-in-Some-clause-over_tree : goal.returns-in-Some-clause-over_tree
returns-in-Some-clause-over_tree g c = λ files listings agree.
    let results = g.D.DefaultFiles.results c.args.default_files.now in
    let dir = c.args.dir.now in
    let name = c.args.name.now in
    default_bad results files listings dir name (string_bytes c.in-Some.field-0) (bad_default (string_bytes c.in-BadFile.path))
    (subst (λ m. NamedDefault results files listings dir name (named_version_view m)) c.in-BadFile.is
    (c.in_ok-version.ensures.answer files listings (c.greatest_candidate-in-BadFile.ensures.narrows files listings
    agree)))
    (subst (λ o. IsGreatestOf files listings dir name (option_map string_bytes o)) c.in-Some.is (c.in_ok-greatest_candidate-in-BadFile.ensures.answer files listings agree))

pub returns-then-not-branch-clause-over_tree : goal.returns-then-not-branch-clause-over_tree
returns-then-not-branch-clause-over_tree g c = λ files listings agree.
    let dir = c.args.dir.now in
    let name = c.args.name.now in
    let entries = map string_bytes c.args.entries.now in
    let none : list_any (is_version name) entries ≡ false = sym c.in_ok-has_version.ensures ∙ c.if-not-branch.true in
    default_none (g.D.DefaultFiles.results c.args.default_files.now) files listings dir name (no_candidates files listings dir name entries (c.requires files listings agree) none)

pub returns-in_err-version-clause-failed : goal.returns-in_err-version-clause-failed
returns-in_err-version-clause-failed g c =
    let results = g.D.DefaultFiles.results c.args.default_files.now in
    let dir = c.args.dir.now in
    let name = c.args.name.now in
    let entries = map string_bytes c.args.entries.now in
    let agrees = g.T.Tree.agrees c.named_default.new.tree in
    let some : list_any (is_version name) entries ≡ true = sym c.in_ok-has_version.ensures ∙ c.if-not-branch.false in
    let e = c.in_err-version.field-0.0 in
    let p = err_from_is_err_and c.from_residual-in_err-version.result c.from_residual-in_err-version.ensures.1 in
    rw (p.1, p.2) (fails_then (is_device e) (is_failure (fault_of_tree e)) (g.T.Tree.failed c.args.tree.now) (g.T.Tree.failed c.args.tree.now) (g.T.Tree.failed c.named_default.new.tree)
    (λ at. InEachPair agrees (λ files listings. LooksForNamed results files listings dir name at))
    (λ at. InEachPair agrees (λ files listings. LooksInFolder results files listings dir name at)) refl (same_failure e)
    (λ at h files listings a.
    (some_version files listings dir name entries (c.requires files listings (c.named_default.ensures.narrows files listings a)) some, inl (h files listings a)))
    c.in_err-version.ensures.failed)

pub returns-in_err-greatest_candidate-in-Nothing-clause-failed : goal.returns-in_err-greatest_candidate-in-Nothing-clause-failed
returns-in_err-greatest_candidate-in-Nothing-clause-failed g c =
    let results = g.D.DefaultFiles.results c.args.default_files.now in
    let dir = c.args.dir.now in
    let name = c.args.name.now in
    let entries = map string_bytes c.args.entries.now in
    let agrees = g.T.Tree.agrees c.greatest_candidate.new.tree in
    let some : list_any (is_version name) entries ≡ true = sym c.in_ok-has_version.ensures ∙ c.if-not-branch.false in
    let e = c.in_err-greatest_candidate-in-Nothing.field-0.0 in
    let p = err_from_is_err_and c.from_residual-in_err-greatest_candidate-in-Nothing.result c.from_residual-in_err-greatest_candidate-in-Nothing.ensures.1 in
    rw (p.1, p.2) (fails_then (is_device e) (is_failure (fault_of_tree e)) (g.T.Tree.failed c.args.tree.now) (g.T.Tree.failed c.named_default.new.tree) (g.T.Tree.failed c.greatest_candidate.new.tree)
    (λ at. InEachPair agrees (λ files listings. LooksForGreatest files listings dir name at))
    (λ at. InEachPair agrees (λ files listings. LooksInFolder results files listings dir name at)) c.in_ok-version.ensures.failed (same_failure e)
    (λ at h files listings a.
    let b = c.greatest_candidate.ensures.narrows files listings a in (
      some_version files listings dir name entries (c.requires files listings (c.named_default.ensures.narrows files listings b)) some,
      inr (inl (subst (λ m. NamedDefault results files listings dir name (named_version_view m)) c.in-Nothing.is (c.in_ok-version.ensures.answer files listings b)), h files listings a),
    ))
    c.in_err-greatest_candidate-in-Nothing.ensures.failed)

pub returns-in_err-greatest_candidate-in-BadFile-clause-failed : goal.returns-in_err-greatest_candidate-in-BadFile-clause-failed
returns-in_err-greatest_candidate-in-BadFile-clause-failed g c =
    let results = g.D.DefaultFiles.results c.args.default_files.now in
    let dir = c.args.dir.now in
    let name = c.args.name.now in
    let entries = map string_bytes c.args.entries.now in
    let agrees = g.T.Tree.agrees c.greatest_candidate-in-BadFile.new.tree in
    let some : list_any (is_version name) entries ≡ true = sym c.in_ok-has_version.ensures ∙ c.if-not-branch.false in
    let e = c.in_err-greatest_candidate-in-BadFile.field-0.0 in
    let p = err_from_is_err_and c.from_residual-in_err-greatest_candidate-in-BadFile.result c.from_residual-in_err-greatest_candidate-in-BadFile.ensures.1 in
    rw (p.1, p.2) (fails_then (is_device e) (is_failure (fault_of_tree e)) (g.T.Tree.failed c.args.tree.now)
    (g.T.Tree.failed c.named_default.new.tree) (g.T.Tree.failed c.greatest_candidate-in-BadFile.new.tree)
    (λ at. InEachPair agrees (λ files listings. LooksForGreatest files listings dir name at))
    (λ at. InEachPair agrees (λ files listings. LooksInFolder results files listings dir name at)) c.in_ok-version.ensures.failed (same_failure e)
    (λ at h files listings a.
    let b = c.greatest_candidate-in-BadFile.ensures.narrows files listings a in (
      some_version files listings dir name entries (c.requires files listings (c.named_default.ensures.narrows files listings b)) some,
      inr (
        inr (
          bad_default (string_bytes c.in-BadFile.path),
          subst
              (λ m. NamedDefault results files listings dir name (named_version_view m)) c.in-BadFile.is
              (c.in_ok-version.ensures.answer files listings b),
        ),
        h files listings a,
      ),
    ))
    c.in_err-greatest_candidate-in-BadFile.ensures.failed)

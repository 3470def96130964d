use Rattle.std.proofs.Common.{inl, inr, refl, subst}
use Rattle.std.proofs.lemmas.Result.{IfOk-weaker, err_from_is_err_and}
use Rattle.filetree.specs.Agreement.{InEachPair, is_device}
use Rattle.search.specs.Found.{NamedDefault}
use Rattle.search.specs.Looked.{LooksAtDefaultFile, LooksForNamed}
use Rattle.search.specs.DefaultFileKinds.{file_name, says}
use Rattle.search.specs.VersionsNamed.{named_version_view, NamedBy}
use Rattle.search.specs.declared.version_named.DefaultFile.TheVariants.{Modulerc, Version}
use Rattle.filetree.proofs.FailedPaths.{fails_then, fails_last}
use Rattle.search.proofs.NamedLemmas.{modulerc_names_no_candidate, named_second}
use Rattle.search.proofs.defaults.named_default.Goals as goal

pub returns-in-Nothing-clause-answer : goal.returns-in-Nothing-clause-answer
returns-in-Nothing-clause-answer g c =
    let results = g.D.DefaultFiles.results c.args.default_files.now in
    let dir = c.args.dir.now in
    let name = c.args.name.now in
    let agrees = g.T.Tree.agrees c.named_by-in-Nothing.new.tree in
    IfOk-weaker c.named_by-in-Nothing.result
    (λ n. InEachPair agrees (λ files listings. NamedBy results files listings dir name Version (named_version_view n)))
    (λ n. InEachPair agrees (λ files listings. NamedDefault results files listings dir name (named_version_view n)))
    (λ n h files listings agree. named_second results files listings dir name (named_version_view n)
    (subst (λ m. NamedBy results files listings dir name Modulerc (named_version_view m)) c.in-Nothing.is
    (c.in_ok-named.ensures.answer files listings (c.named_by-in-Nothing.ensures.narrows files listings agree)))
    (h files listings agree))
    c.named_by-in-Nothing.ensures.answer

pub returns-in_err-named-clause-failed : goal.returns-in_err-named-clause-failed
returns-in_err-named-clause-failed g c =
    let results = g.D.DefaultFiles.results c.args.default_files.now in
    let dir = c.args.dir.now in
    let name = c.args.name.now in
    let agrees = g.T.Tree.agrees c.named_by.new.tree in
    let fails = is_device c.in_err-named.field-0.0 in
    let p = err_from_is_err_and c.from_residual.result c.from_residual.ensures.1 in
    rw (p.1, p.2) (fails_then fails fails (g.T.Tree.failed c.args.tree.now) (g.T.Tree.failed c.args.tree.now) (g.T.Tree.failed c.named_by.new.tree)
    (λ at. InEachPair agrees (λ files listings. LooksAtDefaultFile results files listings dir name (says Modulerc name) (file_name Modulerc) at))
    (λ at. InEachPair agrees (λ files listings. LooksForNamed results files listings dir name at))
    refl refl (λ at h files listings a. inl (h files listings a)) c.in_err-named.ensures.failed)

pub returns-in-Nothing-clause-failed : goal.returns-in-Nothing-clause-failed
returns-in-Nothing-clause-failed g c =
    let results = g.D.DefaultFiles.results c.args.default_files.now in
    let dir = c.args.dir.now in
    let name = c.args.name.now in
    let agrees = g.T.Tree.agrees c.named_by-in-Nothing.new.tree in
    fails_last is_device (g.T.Tree.failed c.args.tree.now) (g.T.Tree.failed c.named_by.new.tree) (g.T.Tree.failed c.named_by-in-Nothing.new.tree) c.named_by-in-Nothing.result
    (λ at. InEachPair agrees (λ files listings. LooksAtDefaultFile results files listings dir name (says Version name) (file_name Version) at))
    (λ at. InEachPair agrees (λ files listings. LooksForNamed results files listings dir name at))
    c.in_ok-named.ensures.failed
    (λ at h files listings a. inr (
      modulerc_names_no_candidate results files listings dir name
          (subst (λ m. NamedBy results files listings dir name Modulerc (named_version_view m)) c.in-Nothing.is
          (c.in_ok-named.ensures.answer files listings (c.named_by-in-Nothing.ensures.narrows files listings a))),
      h files listings a,
    ))
    c.named_by-in-Nothing.ensures.failed

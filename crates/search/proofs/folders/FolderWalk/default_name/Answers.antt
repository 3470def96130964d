use Rattle.std.proofs.Common.{string_bytes, option_map, Ok, Err, None, Some, refl, sym, ap, ◌∙◌, subst}
use Rattle.std.proofs.lemmas.Result.{err_from_is_err_and}
use Rattle.filetree.specs.Agreement.{InEachPair, is_device}
use Rattle.filetree.specs.Modulefiles.{path_of}
use Rattle.search.specs.Reasons.{bad_default}
use Rattle.search.specs.Found.{NamedDefault}
use Rattle.search.specs.Looked.{LooksForNamed}
use Rattle.search.specs.VersionsNamed.{named_version_view}
use Rattle.filetree.proofs.FailedPaths.{fails_then}
use Rattle.search.specs.Walks.{IsDefaultOf, LooksForDefault}
use Rattle.search.proofs.DefaultLemmas.{default_candidate, default_nothing}
use Rattle.search.proofs.folders.FolderWalk.default_name.Goals as goal

pub returns-in-Version-clause-answer : goal.returns-in-Version-clause-answer
returns-in-Version-clause-answer g c = λ files folders a.
    let results = g.D.DefaultFiles.results c.args.self.now.default_files.now in
    let law = g.met.D.DefaultFiles.one c.args.self.now.default_files.now in
    let dir = c.args.self.now.dir.now in
    let prefix = c.in-Some.prefix.now in
    let default = string_bytes c.in_ok-path_of-in-Version.field-0 in
    subst (λ f. IsDefaultOf results files folders dir (option_map (λ x. x.now) f) (Some default)) (sym c.in-Some.is)
    (default_candidate results law files folders dir prefix (string_bytes c.in-Version.version) default
    (c.in_ok-path_of-in-Version.ensures ∙ ap (path_of prefix) c.deref.ensures)
    (subst (λ n. NamedDefault results files folders dir prefix (named_version_view n)) c.in-Version.is (c.in_ok-version.ensures.answer files folders a)))

pub returns-in-Nothing-clause-answer : goal.returns-in-Nothing-clause-answer
returns-in-Nothing-clause-answer g c = λ files folders a.
    let results = g.D.DefaultFiles.results c.args.self.now.default_files.now in
    let law = g.met.D.DefaultFiles.one c.args.self.now.default_files.now in
    let dir = c.args.self.now.dir.now in
    let prefix = c.in-Some.prefix.now in
    subst (λ f. IsDefaultOf results files folders dir (option_map (λ x. x.now) f) None) (sym c.in-Some.is)
    (default_nothing results law files folders dir prefix (Ok None)
    (subst (λ n. NamedDefault results files folders dir prefix (named_version_view n)) c.in-Nothing.is (c.in_ok-version.ensures.answer files folders a)) (λ v q. absurd (cc)))

pub returns-clause-answer : goal.returns-clause-answer
returns-clause-answer g c = λ files folders a.
    let results = g.D.DefaultFiles.results c.args.self.now.default_files.now in
    let law = g.met.D.DefaultFiles.one c.args.self.now.default_files.now in
    let dir = c.args.self.now.dir.now in
    let prefix = c.in-Some.prefix.now in
    subst (λ f. IsDefaultOf results files folders dir (option_map (λ x. x.now) f) None) (sym c.in-Some.is)
    (default_nothing results law files folders dir prefix (Err (bad_default (string_bytes c.in-BadFile.field-0)))
    (subst (λ n. NamedDefault results files folders dir prefix (named_version_view n)) c.in-BadFile.is (c.in_ok-version.ensures.answer files folders a)) (λ v q. absurd (cc)))

pub returns-in_err-version-clause-failed : goal.returns-in_err-version-clause-failed
returns-in_err-version-clause-failed g c =
    let results = g.D.DefaultFiles.results c.args.self.now.default_files.now in
    let dir = c.args.self.now.dir.now in
    let prefix = c.in-Some.prefix.now in
    let agrees = g.T.Tree.agrees c.named_default.new.tree in
    let fails = is_device c.in_err-version.field-0.0 in
    let p = err_from_is_err_and c.from_residual.result c.from_residual.ensures.1 in
    rw (p.1, p.2) (fails_then fails fails (g.T.Tree.failed c.args.tree.now) (g.T.Tree.failed c.args.tree.now) (g.T.Tree.failed c.named_default.new.tree)
    (λ at. InEachPair agrees (λ files folders. LooksForNamed results files folders dir prefix at))
    (λ at. InEachPair agrees (λ files folders. LooksForDefault results files folders dir (option_map (λ f. f.now) c.args.prefix) at)) refl refl
    (λ at h files folders a. subst (λ f. LooksForDefault results files folders dir (option_map (λ x. x.now) f) at) (sym c.in-Some.is) (h files folders a))
    c.in_err-version.ensures.failed)

use Rattle.std.proofs.Common.{inl, inr, refl, map, option_map, string_bytes}
use Rattle.std.proofs.lemmas.Result.{IfOk-weaker, err_from_is_err_and}
use Rattle.filetree.specs.Agreement.{InEachPair, is_device}
use Rattle.filetree.proofs.FailedPaths.{fails_then}
use Rattle.filetree.specs.Modulefiles.{path_of}
use Rattle.lookup.specs.DefaultFileResults.{HasResult}
use Rattle.search.specs.Looked.{LooksForNamed}
use Rattle.search.specs.VersionsNamed.{named_version_view}
use Rattle.audit_site.specs.WithoutVersion.{VersionsLookAt}
use Rattle.audit_site.proofs.WithoutVersionLemmas.{answered, is_some}
use Rattle.audit_site.proofs.without_version.among_entries.Goals as goal

pub returns-in_err-named-clause-failed : goal.returns-in_err-named-clause-failed
returns-in_err-named-clause-failed g c =
    let a = c.args in
    let fails = is_device c.in_err-named.field-0.0 in
    let agrees = g.T.Tree.agrees c.named_default.new.tree in
    let p = err_from_is_err_and c.from_residual.result c.from_residual.ensures.1 in
    rw (p.1, p.2) (fails_then fails fails (g.T.Tree.failed a.tree.now) (g.T.Tree.failed a.tree.now) (g.T.Tree.failed c.named_default.new.tree)
    (λ at. InEachPair agrees (λ files listings. LooksForNamed (HasResult a.limits) files listings a.dir.now a.name.now at))
    (λ at. InEachPair agrees (λ files listings. VersionsLookAt a.limits files listings a.dir.now a.name.now at)) refl refl
    (λ at h files listings k. inr (inl (h files listings k))) c.in_err-named.ensures.failed)

pub returns-clause-answer : goal.returns-clause-answer
returns-clause-answer g c =
    let a = c.args in
    IfOk-weaker c.where_nothing.result _ _
    (λ path h files listings k.
    let before = c.where_nothing.ensures.narrows files listings k in
    answered a.limits files listings a.dir.now a.name.now
    (is_some (listings (path_of a.dir.now a.name.now)) (map string_bytes a.entries.now) (c.requires files listings (c.named_default.ensures.narrows files listings before)))
    (c.one_result.ensures a.limits) (named_version_view c.in_ok-named.named) (option_map string_bytes path) (c.in_ok-named.ensures.answer files listings before) (h files listings k))
    c.where_nothing.ensures.answer

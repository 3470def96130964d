use Rattle.std.proofs.Common.{inr, option_map, string_bytes}
use Rattle.std.proofs.lemmas.Result.{err_from_is_err_and}
use Rattle.filetree.specs.Agreement.{InEachPair, is_device}
use Rattle.filetree.proofs.FailedPaths.{fails_then}
use Rattle.modules.specs.Answers.{is_failure, refused_read}
use Rattle.modules.proofs.FailureLemmas.{read_failure}
use Rattle.search.specs.Answers.{found_view}
use Rattle.audit_site.specs.Folders.{folder_view, SearchLooksAt}
use Rattle.audit_site.specs.WithoutVersion.{VersionsLookAt}
use Rattle.audit_site.proofs.WithoutVersionLemmas.{bad_where_found}
use Rattle.audit_site.proofs.defaults.bad_default_file.Goals as goal

pub returns-in_err-default_file_without_version-in-Ok-clause-failed :
    goal.returns-in_err-default_file_without_version-in-Ok-clause-failed
returns-in_err-default_file_without_version-in-Ok-clause-failed g c =
    let limits = c.args.limits in
    let folder = folder_view c.args.folder.now in
    let fault = c.in_err-default_file_without_version-in-Ok.field-0.0 in
    let agrees = g.T.Tree.agrees c.default_file_without_version.new.tree in
    let p = err_from_is_err_and c.from_residual.result c.from_residual.ensures.1 in
    rw (p.1, p.2) (fails_then (is_device fault) (is_failure (refused_read fault)) (g.T.Tree.failed c.args.tree.now) (g.T.Tree.failed c.locate.new.tree) (g.T.Tree.failed c.default_file_without_version.new.tree)
    (λ at. InEachPair agrees (λ files listings. VersionsLookAt limits files listings folder.0 folder.1 at))
    (λ at. InEachPair agrees (λ files listings. SearchLooksAt limits files listings folder at)) c.in-Ok.ensures.failed (read_failure fault)
    (λ at h files listings k. inr (h files listings k))
    (rw (c.as_str-in-Ok.ensures.value, c.as_str-in-Ok-2.ensures.value) at c.in_err-default_file_without_version-in-Ok.ensures.failed))

pub returns-in-Ok-clause-answer : goal.returns-in-Ok-clause-answer
returns-in-Ok-clause-answer g c = λ files listings k.
    let folder = folder_view c.args.folder.now in
    bad_where_found c.args.limits files listings folder (found_view c.in-Ok.field-0) (option_map string_bytes c.in_ok-default_file_without_version-in-Ok.field-0)
    (c.one_found.ensures files listings folder.0 folder.1)
    (rw (c.as_str.ensures.value, c.as_str-2.ensures.value) at (c.in-Ok.ensures.over_tree files listings (c.default_file_without_version.ensures.narrows files listings k)))
    (rw (c.as_str-in-Ok.ensures.value, c.as_str-in-Ok-2.ensures.value) at (c.in_ok-default_file_without_version-in-Ok.ensures.answer files listings k))

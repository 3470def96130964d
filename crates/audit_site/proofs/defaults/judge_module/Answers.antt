use Rattle.std.proofs.Common.{Option, Some, option_map, map, refl, subst, string_bytes}
use Rattle.std.proofs.lemmas.Result.{on_ok_weaker}
use Rattle.filetree.specs.Agreement.{InEachPair}
use Rattle.filetree.proofs.FailedPaths.{fails_last}
use Rattle.modules.specs.Answers.{is_failure}
use Rattle.audit_site.specs.declared.defaults.Folder.{Folder}
use Rattle.audit_site.specs.DeterministicRuns.{evaluated_file}
use Rattle.audit_site.specs.Folders.{folder_view, SearchLooksAt, ModuleLooksAt}
use Rattle.audit_site.proofs.BadDefaults.{IsFolderOf, one_added, one_bad}
use Rattle.audit_site.proofs.defaults.judge_module.Goals as goal

pub returns-in-Some-clause-folders : goal.returns-in-Some-clause-folders
returns-in-Some-clause-folders g c =
    let m = evaluated_file c.args.module.now in
    let f = folder_view c.in-Some.folder in
    let w : IsFolderOf m (Some f) = subst (λ (o : Option Folder). IsFolderOf m (option_map folder_view o)) c.in-Some.is c.in_ok-folder_with.ensures in
    on_ok_weaker c.judge_new.result (λ h. one_added (map folder_view c.args.folders.now.keys) (map folder_view c.judge_new.new.folders.keys) f m w h) c.judge_new.ensures.folders

pub returns-in-Some-clause-answer : goal.returns-in-Some-clause-answer
returns-in-Some-clause-answer g c =
    let m = evaluated_file c.args.module.now in
    let f = folder_view c.in-Some.folder in
    let w : IsFolderOf m (Some f) = subst (λ (o : Option Folder). IsFolderOf m (option_map folder_view o)) c.in-Some.is c.in_ok-folder_with.ensures in
    on_ok_weaker c.judge_new.result (λ h files listings agrees.
    one_bad c.args.limits files listings (map folder_view c.args.folders.now.keys) f m (map string_bytes c.args.paths.now.keys) (map string_bytes c.judge_new.new.paths.keys) w
    (h files listings agrees)) c.judge_new.ensures.answer

pub returns-in-Some-clause-failed : goal.returns-in-Some-clause-failed
returns-in-Some-clause-failed g c =
    let m = evaluated_file c.args.module.now in
    let f = folder_view c.in-Some.folder in
    let w : IsFolderOf m (Some f) = subst (λ (o : Option Folder). IsFolderOf m (option_map folder_view o)) c.in-Some.is c.in_ok-folder_with.ensures in
    let limits = c.args.limits in
    let agrees = g.T.Tree.agrees c.judge_new.new.tree in
    fails_last is_failure (g.T.Tree.failed c.args.tree.now) (g.T.Tree.failed c.args.tree.now) (g.T.Tree.failed c.judge_new.new.tree) c.judge_new.result
    (λ at. InEachPair agrees (λ files listings. SearchLooksAt limits files listings f at))
    (λ at. InEachPair agrees (λ files listings. ModuleLooksAt limits files listings m at)) refl
    (λ at h files listings a. (f, (w f).0 refl, h files listings a)) c.judge_new.ensures.failed

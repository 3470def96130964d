use Rattle.std.proofs.Common.{map, refl, ◌∙◌, string_bytes, rules}
use Rattle.std.proofs.lemmas.Result.{err_from_is_err_and}
use Rattle.envvars.specs.Texts.{texts_in}
use Rattle.filetree.specs.Agreement.{InEachPair}
use Rattle.filetree.proofs.FailedPaths.{fails_then}
use Rattle.modules.specs.Answers.{is_failure}
use Rattle.audit_site.specs.DeterministicRuns.{evaluated_file}
use Rattle.audit_site.specs.Folders.{folder_view, ModuleLooksAt, EvaluatedLookAt}
use Rattle.audit_site.proofs.AmongLemmas.{among_at}
use Rattle.audit_site.proofs.BadDefaults.{bad_more, bad_whole}
use Rattle.audit_site.proofs.FolderLemmas.{folders_more}
use Rattle.audit_site.proofs.defaults.bad_default_files.Goals as goal

pub loop-module-preserved : goal.loop-module-preserved
loop-module-preserved g c =
    let es = c.args.evaluations.now in
    let i = c.loop-module.module-index in
    let m = c.module-item.result in
    record {
      reads = search rules;
      unfailed = c.in_ok-judge_module.ensures.failed ∙ c.loop-module.invariant.unfailed;
      folders = folders_more c.loop-module.folders.keys c.judge_module.new.folders.keys es i m c.loop-module-test.true c.module-item.is
          c.loop-module.invariant.folders c.in_ok-judge_module.ensures.folders;
      paths = λ files listings agrees.
          bad_more c.args.limits files listings es i m (map folder_view c.loop-module.folders.keys) (map string_bytes c.loop-module.paths.keys) (map string_bytes c.judge_module.new.paths.keys)
          c.loop-module-test.true c.module-item.is c.loop-module.invariant.folders
          (c.loop-module.invariant.paths files listings (c.judge_module.ensures.reads.narrows files listings agrees))
          (c.in_ok-judge_module.ensures.answer files listings agrees);
    }

pub returns-clause-answer : goal.returns-clause-answer
returns-clause-answer g c = λ files listings agrees.
    bad_whole c.args.limits files listings c.args.evaluations.now c.loop-module.module-index (map string_bytes c.loop-module.paths.keys) (texts_in c.in_ok-in_order.field-0)
    c.loop-module-test.false (c.loop-module.invariant.paths files listings agrees) c.in_ok-in_order.ensures

pub returns-in_err-judge_module-clause-failed : goal.returns-in_err-judge_module-clause-failed
returns-in_err-judge_module-clause-failed g c =
    let limits = c.args.limits in
    let es = c.args.evaluations.now in
    let m = c.module-item.result in
    let fails = is_failure c.in_err-judge_module.field-0.0 in
    let agrees = g.T.Tree.agrees c.judge_module.new.tree in
    let p = err_from_is_err_and c.from_residual.result c.from_residual.ensures.1 in
    rw (p.1, p.2) (fails_then fails fails (g.T.Tree.failed c.args.tree.now) (g.T.Tree.failed c.loop-module.tree) (g.T.Tree.failed c.judge_module.new.tree)
    (λ at. InEachPair agrees (λ files listings. ModuleLooksAt limits files listings (evaluated_file m) at))
    (λ at. InEachPair agrees (λ files listings. EvaluatedLookAt limits files listings es at)) c.loop-module.invariant.unfailed refl
    (λ at h files listings a. let k = h files listings a in
    (k.0, (m, among_at es c.loop-module.module-index m c.loop-module-test.true c.module-item.is, k.1), k.2)) c.in_err-judge_module.ensures.failed)

pub returns-in_err-in_order-clause-failed : goal.returns-in_err-in_order-clause-failed
returns-in_err-in_order-clause-failed g c =
    let p = err_from_is_err_and c.from_residual-in_err-in_order.result c.from_residual-in_err-in_order.ensures.1 in
    rw (p.1, p.2) c.loop-module.invariant.unfailed

pub returns-clause-failed : goal.returns-clause-failed
returns-clause-failed g c = c.loop-module.invariant.unfailed

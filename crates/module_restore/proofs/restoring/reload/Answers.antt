use Rattle.std.proofs.Common.{[]}
use Rattle.std.proofs.lemmas.Result.{err_from_is_err_and}
use Rattle.envvars.specs.Texts.{texts_in}
use Rattle.filetree.proofs.FailedPaths.{only_wider_in_each}
use Rattle.requests.specs.Steps.{request_context_in}
use Rattle.module_auto.specs.Answers.{Outcomes}
use Rattle.module_restore.specs.Restores.{ReloadLooksAt, ReloadStep, RestoreLooksAt, RestoreStep}
use Rattle.module_restore.proofs.RestoreLemmas.{answered_wider, reload_looks, reloads, unanswered_wider, unread_fault}
use Rattle.module_restore.proofs.restoring.reload.Goals as goal

pub returns-in_err-modules-clause-refused : goal.returns-in_err-modules-clause-refused
returns-in_err-modules-clause-refused g c =
    let p = err_from_is_err_and c.from_residual.result c.from_residual.ensures.1 in
    rw (p.1, p.2) (unread_fault (g.T.Tree.agrees c.args.tree.now) _ c.args.limits c.args.shell c.args.env.now c.in_err-modules.field-0.0 c.in_err-modules.ensures)

pub returns-clause-restored : goal.returns-clause-restored
returns-clause-restored g c =
    let First : Outcomes = λ files listings. RestoreStep (request_context_in c.args.limits c.args.shell files listings) c.args.env.now [] (texts_in c.in_ok-modules.modules) in
    let Whole : Outcomes = λ files listings. ReloadStep (request_context_in c.args.limits c.args.shell files listings) c.args.env.now in
    answered_wider (g.T.Tree.agrees c.restore.new.tree) c.args.shell c.args.env.now First Whole
    (λ files listings o k. reloads (request_context_in c.args.limits c.args.shell files listings) c.args.env.now (texts_in c.in_ok-modules.modules) o c.in_ok-modules.ensures k)
    c.restore.result (rw c.new.ensures.items at c.restore.ensures.restored)

pub returns-clause-refused : goal.returns-clause-refused
returns-clause-refused g c =
    let First : Outcomes = λ files listings. RestoreStep (request_context_in c.args.limits c.args.shell files listings) c.args.env.now [] (texts_in c.in_ok-modules.modules) in
    let Whole : Outcomes = λ files listings. ReloadStep (request_context_in c.args.limits c.args.shell files listings) c.args.env.now in
    unanswered_wider (g.T.Tree.agrees c.restore.new.tree) c.args.shell c.args.env.now First Whole
    (λ files listings o k. reloads (request_context_in c.args.limits c.args.shell files listings) c.args.env.now (texts_in c.in_ok-modules.modules) o c.in_ok-modules.ensures k)
    _ c.restore.result (rw c.new.ensures.items at c.restore.ensures.refused)

pub returns-clause-failed : goal.returns-clause-failed
returns-clause-failed g c =
    only_wider_in_each (g.T.Tree.agrees c.restore.new.tree) _ _
    (λ files listings. RestoreLooksAt (request_context_in c.args.limits c.args.shell files listings) c.args.env.now [] (texts_in c.in_ok-modules.modules))
    (λ files listings. ReloadLooksAt (request_context_in c.args.limits c.args.shell files listings) c.args.env.now)
    (λ files listings a at h. reload_looks (request_context_in c.args.limits c.args.shell files listings) c.args.env.now (texts_in c.in_ok-modules.modules) at c.in_ok-modules.ensures h)
    (rw c.new.ensures.items at c.restore.ensures.failed)

use Rattle.envvars.specs.Texts.{texts_in}
use Rattle.filetree.proofs.FailedPaths.{only_if}
use Rattle.requests.specs.Steps.{request_context_in}
use Rattle.module_auto.specs.Answers.{Outcomes}
use Rattle.module_restore.specs.Restores.{RestoreStep}
use Rattle.module_restore.specs.Views.{run_view}
use Rattle.module_restore.proofs.RestoreLemmas.{answered, unanswered}
use Rattle.module_restore.proofs.restoring.restore.Goals as goal

pub returns-clause-restored : goal.returns-clause-restored
returns-clause-restored g c =
    let Comes : Outcomes = λ files listings. RestoreStep (request_context_in c.args.limits c.args.shell files listings) c.args.env.now
    (texts_in c.args.collection.now.directories) (texts_in c.args.collection.now.modules) in
    answered (g.T.Tree.agrees c.run_restore.new.tree) c.args.shell c.args.env.now (run_view c.in_ok-run.run') Comes
    (rw (c.as_slice-directories.ensures.value, c.as_slice-modules.ensures.value) at c.in_ok-run.ensures.over_tree) c.answer_of.result c.answer_of.ensures.said c.answer_of.ensures.messages

pub returns-clause-refused : goal.returns-clause-refused
returns-clause-refused g c =
    let Comes : Outcomes = λ files listings. RestoreStep (request_context_in c.args.limits c.args.shell files listings) c.args.env.now
    (texts_in c.args.collection.now.directories) (texts_in c.args.collection.now.modules) in
    unanswered (g.T.Tree.agrees c.run_restore.new.tree) c.args.shell c.args.env.now (run_view c.in_ok-run.run') Comes
    (rw (c.as_slice-directories.ensures.value, c.as_slice-modules.ensures.value) at c.in_ok-run.ensures.over_tree) _ c.answer_of.result c.answer_of.ensures.fault

pub returns-in_err-run-clause-failed : goal.returns-in_err-run-clause-failed
returns-in_err-run-clause-failed g c = only_if _ _ _ _ (rw (c.as_slice-directories.ensures.value, c.as_slice-modules.ensures.value) at c.in_err-run.ensures.failed)

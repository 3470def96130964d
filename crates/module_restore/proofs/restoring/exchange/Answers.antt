use Rattle.std.proofs.Common.{List, map, string_bytes, String}
use Rattle.std.proofs.lemmas.Result.{err_from_is_err_and}
use Rattle.std.specs.declared.alloc.Global.{Global}
use Rattle.envvars.specs.Texts.{Text}
use Rattle.filetree.proofs.FailedPaths.{only_if}
use Rattle.requests.specs.Steps.{request_context_in}
use Rattle.module_auto.specs.Answers.{Outcomes}
use Rattle.module_restore.specs.Restores.{ExchangeStep}
use Rattle.module_restore.specs.Views.{run_view}
use Rattle.module_restore.proofs.RestoreLemmas.{answered, unanswered}
use Rattle.module_restore.proofs.restoring.exchange.Goals as goal

pub returns-clause-exchanged : goal.returns-clause-exchanged
returns-clause-exchanged g c =
    let unloads : List Text = map (λ (s : String Global). string_bytes s) c.args.unloads.now in
    let loads : List Text = map (λ (s : String Global). string_bytes s) c.args.loads.now in
    let Comes : Outcomes = λ files listings. ExchangeStep (request_context_in c.args.limits c.args.shell files listings) c.args.env.now unloads loads in
    answered (g.T.Tree.agrees c.run_restore.new.tree) c.args.shell c.args.env.now (run_view c.in_ok-run.run') Comes
    (rw (c.in_ok-copies.ensures) at c.in_ok-run.ensures.over_tree) c.answer_of.result c.answer_of.ensures.said c.answer_of.ensures.messages

pub returns-clause-refused : goal.returns-clause-refused
returns-clause-refused g c =
    let unloads : List Text = map (λ (s : String Global). string_bytes s) c.args.unloads.now in
    let loads : List Text = map (λ (s : String Global). string_bytes s) c.args.loads.now in
    let Comes : Outcomes = λ files listings. ExchangeStep (request_context_in c.args.limits c.args.shell files listings) c.args.env.now unloads loads in
    unanswered (g.T.Tree.agrees c.run_restore.new.tree) c.args.shell c.args.env.now (run_view c.in_ok-run.run') Comes
    (rw (c.in_ok-copies.ensures) at c.in_ok-run.ensures.over_tree) _ c.answer_of.result c.answer_of.ensures.fault

pub returns-in_err-run-clause-refused : goal.returns-in_err-run-clause-refused
returns-in_err-run-clause-refused g c =
    let p = err_from_is_err_and c.from_residual-in_err-run.result c.from_residual-in_err-run.ensures.1 in
    rw (p.1, p.2) (rw (c.in_ok-copies.ensures) at c.in_err-run.ensures.over_tree)

pub returns-in_err-run-clause-failed : goal.returns-in_err-run-clause-failed
returns-in_err-run-clause-failed g c = only_if _ _ _ _ (rw (c.in_ok-copies.ensures) at c.in_err-run.ensures.failed)

use Rattle.std.proofs.Common.{◌<◌}
use Rattle.std.proofs.lemmas.Result.{err_from_is_err_and}
use Rattle.requests.specs.RequestViews.{action_view}
use Rattle.requests.specs.Steps.{RequestStep}
use Rattle.module_auto.specs.Answers.{Outcomes}
use Rattle.module_subcommands.specs.Limits.{context}
use Rattle.module_subcommands.proofs.RequestLemmas.{unprinted}
use Rattle.module_subcommands.proofs.requesting.done.Goals as goal

pub returns-in_err-text-clause-refused : goal.returns-in_err-text-clause-refused
returns-in_err-text-clause-refused g c =
    let p = err_from_is_err_and c.from_residual-in_err-text.result c.from_residual-in_err-text.ensures.1 in
    let wanted = c.args.wanted.now in
    let e = c.args.env.now in
    let Comes : Outcomes = λ files listings. RequestStep (context wanted.shell files listings) e (action_view wanted.action) in
    rw (p.1, p.2) (unprinted (g.T.Tree.agrees c.run_changes.new.tree) (g.T.Tree.failures c.args.tree.now < g.T.Tree.failures c.run_changes.new.tree) wanted.shell e Comes c.in_ok-changed.changed
    c.in_err-text.field-0.0 c.in_ok-changed.ensures.over_tree c.in_ok-changed.ensures.exact (rw c.as_slice.ensures.value at c.in_err-text.ensures.fault))

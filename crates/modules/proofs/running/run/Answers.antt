use Rattle.std.proofs.lemmas.Result.{err_from_is_err_and}
use Rattle.requests.specs.RequestViews.{action_view}
use Rattle.modules.proofs.MemoryNumberLemmas.{own_number}
use Rattle.modules.proofs.running.run.Goals as goal

pub returns-in_err-after-clause-out_of_memory : goal.returns-in_err-after-clause-out_of_memory
returns-in_err-after-clause-out_of_memory g c =
    let p = err_from_is_err_and c.from_residual-in_err-after.result c.from_residual-in_err-after.ensures.1 in
    rw (p.1, p.2) (own_number (action_view c.args.request.now.action))

pub returns-in_err-apply-clause-out_of_memory : goal.returns-in_err-apply-clause-out_of_memory
returns-in_err-apply-clause-out_of_memory g c =
    let p = err_from_is_err_and c.from_residual-in_err-apply.result c.from_residual-in_err-apply.ensures.1 in
    rw (p.1, p.2) (own_number (action_view c.args.request.now.action))

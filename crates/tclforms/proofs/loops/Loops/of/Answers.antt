use Rattle.std.proofs.lemmas.Result.{err_from_is_err_and}
use Rattle.tclforms.proofs.TurnLemmas.{loops_step, loops_refused}
use Rattle.tclforms.proofs.loops.Loops.of.Goals as goal

pub returns-in_err-items_of : goal.returns-in_err-items_of
returns-in_err-items_of c =
    let p = err_from_is_err_and c.from_residual.result c.from_residual.ensures.1 in
    rw (p.1, p.2) (loops_refused c.args.lists.now c.loop-names.read.items c.loop-names.names-index _ _ c.loop-names-test.true
    c.loop-names.invariant c.in_err-items_of.ensures)

pub loop-names-preserved : goal.loop-names-preserved
loop-names-preserved c =
    loops_step c.args.lists.now c.loop-names.read.items c.push.new.self.items c.loop-names.names-index _
    c.in_ok-items_of.field-0 c.loop-names-test.true c.loop-names.invariant c.in_ok-items_of.ensures c.in_ok-push.ensures.items

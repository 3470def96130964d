use Rattle.tclforms.proofs.FirstLemmas.{kept_first}
use Rattle.tclforms.proofs.calls.push_first.Goals as goal

pub returns-in_ok-push-clause-values : goal.returns-in_ok-push-clause-values
returns-in_ok-push-clause-values c =
    rw c.in_ok-push.ensures.items ((kept_first c.args.names.now.keys c.args.values.now.items c.args.name c.args.value
    c.in_ok-insert.field-0 c.requires c.in_ok-insert.ensures.added).0 c.if-branch.true)

pub returns-else-branch-clause-values : goal.returns-else-branch-clause-values
returns-else-branch-clause-values c = (kept_first c.args.names.now.keys c.args.values.now.items c.args.name c.args.value
    c.in_ok-insert.field-0 c.requires c.in_ok-insert.ensures.added).1 c.if-branch.false

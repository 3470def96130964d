use Rattle.std.proofs.Common.{refl}
use Rattle.modules.specs.Replies.{reply_view}
use Rattle.module_subcommands.proofs.exchanging.env_behind.Goals as goal

pub returns-clause-behind : goal.returns-clause-behind
returns-clause-behind g c =
    let step = rw c.in_ok-copies.ensures at c.in_ok-run.ensures.over_tree in
    λ files listings a. (reply_view c.in_ok-run.field-0, step files listings a, refl)

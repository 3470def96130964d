use Rattle.std.proofs.Common.{sym, ◌∙◌}
use Rattle.envvars.proofs.difference.names_of_both.Goals as goal

pub returns : goal.returns
returns c = λ n h.
    let later = c.in_ok-push_names-2.ensures n h in
    (c.in_ok-push_names.ensures n later.0).1 ∙ sym later.1

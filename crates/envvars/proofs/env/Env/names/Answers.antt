use Rattle.std.proofs.Common.{ap, ◌∙◌}
use Rattle.envvars.specs.Texts.{has, slice_texts}
use Rattle.envvars.proofs.ChangeLemmas.{keys-set}
use Rattle.envvars.proofs.env.Env.names.Goals as goal

pub returns-clause-ok : goal.returns-clause-ok
returns-clause-ok c =
    c.in_ok-owned.ensures ∙ ap slice_texts c.as_slice.ensures.value
    ∙ keys-set c.args.self.now (slice_texts c.push_names.new.names.items) (slice_texts c.sorted_once-names.result.items) (λ n h. (c.in_ok-push_names.ensures n h).1) c.sorted_once-names.ensures.ordered
    (λ q. c.sorted_once-names.ensures.same q ∙ ap (has q) c.keep_set.ensures)

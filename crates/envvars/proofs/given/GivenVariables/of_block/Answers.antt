use Rattle.std.proofs.Common.{rules, length}
use Rattle.envvars.proofs.GivenLemmas.{chained-none}
use Rattle.envvars.proofs.given.GivenVariables.of_block.Goals as goal

pub returns-clause-chained : goal.returns-clause-chained
returns-clause-chained c =
    chained-none (length c.in_ok-from_elem.field-0.items) c.args.block.items c.in_ok-with_capacity.field-0.items
    c.in_ok-from_elem.field-0.items _ c.in_ok-with_capacity.ensures.items
    (c.in_ok-from_elem.ensures.items_if_clones_equal (search rules))

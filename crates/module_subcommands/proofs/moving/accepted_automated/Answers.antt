use Rattle.std.proofs.Common.{refl, sym, ◌∙◌}
use Rattle.module_subcommands.proofs.moving.accepted_automated.Goals as goal

pub returns-then-is_load-clause-accepted : goal.returns-then-is_load-clause-accepted
returns-then-is_load-clause-accepted g c =
    let is = sym c.is_load.ensures ∙ c.if-is_load.true in rw is (c.in_ok-load.load, c.in_ok-load.ensures.loads, refl)

pub returns-clause-accepted : goal.returns-clause-accepted
returns-clause-accepted g c =
    let is = sym c.is_load.ensures ∙ c.if-is_load.false in rw is (c.in_ok-unload.unload, c.in_ok-unload.ensures.unloads, refl)

use Rattle.std.proofs.Common.{ap, sym, ◌∙◌}
use Rattle.std.specs.Option.{option_map}
use Rattle.envstate.proofs.loaded_list.LoadedReading.{first_noted, absent}
use Rattle.envstate.proofs.loaded_list.list.enter_first_element.Goals as goal

pub returns-in_ok-insert : goal.returns-in_ok-insert
returns-in_ok-insert c =
    first_noted c.args.table.now c.insert.new.self c.args.module_name.now c.args.element
    (ap (option_map (λ x. x.now)) (sym c.get.ensures.value ∙ absent c.get.result c.is_none.result c.is_none.ensures c.if-is_none.true))
    c.in_ok-insert.ensures.updates

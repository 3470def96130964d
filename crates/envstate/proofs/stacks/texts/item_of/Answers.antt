use Rattle.std.proofs.Common.{sym, string_bytes}
use Rattle.std.specs.Option.{option_map}
use Rattle.envstate.proofs.stacks.StackReading.{item_made, item-none}
use Rattle.envstate.proofs.stacks.texts.item_of.Goals as goal

pub returns-in_default : goal.returns-in_default
returns-in_default c = sym (item-none c.args.element.now c.in_default.ensures.cases)

pub returns : goal.returns
returns c =
    item_made c.args.element.now c.in-Some.prefix c.in-Some.value (option_map string_bytes c.in_ok-owner.owner)
    (string_bytes c.in_ok-value.value) c.in-Some.ensures.cases c.in_ok-owner.ensures c.in_ok-value.ensures.ok

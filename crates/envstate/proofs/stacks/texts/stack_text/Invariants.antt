use Rattle.std.proofs.Common.{◌≡◌, map, take}
use Rattle.envvars.specs.Texts.{texts_in}
use Rattle.envvars.specs.Escapes.{escaped}
use Rattle.envstate.specs.stacks.StackTexts.{element_text}
use Rattle.envstate.specs.stacks.StackItems.{item_in}
use Rattle.envstate.proofs.stacks.texts.stack_text.Given as goal

abbrev pub invariant-loop-item : goal.invariant-loop-item
invariant-loop-item l = texts_in l.elements ≡ map (λ item. escaped (element_text item)) (map item_in (take l.item-index l.items))

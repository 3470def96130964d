use Rattle.std.proofs.Common.{◌≡◌, ◌++◌, map, drop, string_bytes}
use Rattle.std.specs.Option.{option_map}
use Rattle.envstate.specs.stacks.StackTexts.{items_of_elements}
use Rattle.envstate.specs.stacks.StackItems.{items_of_vec}
use Rattle.envstate.proofs.stacks.texts.items_of.Given as goal

-- the items so far, and then those of the rest
abbrev pub invariant-loop-element : goal.invariant-loop-element
invariant-loop-element l = option_map (λ items. items_of_vec l.items ++ items)
    (items_of_elements (map string_bytes (drop l.element-index l.elements))) ≡ items_of_elements
    (map string_bytes l.elements)

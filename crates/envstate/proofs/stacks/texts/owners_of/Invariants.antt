use Rattle.std.proofs.Common.{◌≡◌, ◌++◌, map, drop}
use Rattle.envstate.specs.stacks.StackTexts.{owners_of}
use Rattle.envstate.specs.stacks.StackItems.{item_in}
use Rattle.envstate.proofs.stacks.texts.owners_of.Given as goal

abbrev pub invariant-loop-item : goal.invariant-loop-item
invariant-loop-item l = map (λ x. x.now) l.owners.items ++ owners_of (map item_in (drop l.item-index l.items)) ≡ owners_of (map item_in l.items)

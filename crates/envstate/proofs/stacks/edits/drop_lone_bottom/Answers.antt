use Rattle.std.proofs.Common.{ap, ◌∙◌, map}
use Rattle.std.specs.Prelude.{is_some}
use Rattle.std.specs.List.{list_any}
use Rattle.envstate.specs.stacks.StackItems.{item_in}
use Rattle.envstate.proofs.stacks.StackEdits.{unsettled, stays_settled}
use Rattle.envstate.proofs.stacks.edits.drop_lone_bottom.Goals as goal

pub returns-then-not-has_owner : goal.returns-then-not-has_owner
returns-then-not-has_owner c =
    unsettled c.args.items.now.items c.has_owner.result _
    (c.has_owner.ensures ∙ ap (list_any (λ item. is_some item.owner)) c.as_slice.ensures.value)
    c.if-not-has_owner.true (ap (map item_in) c.clear.ensures.items)

pub returns-else-not-has_owner : goal.returns-else-not-has_owner
returns-else-not-has_owner c =
    stays_settled c.args.items.now.items c.has_owner.result (c.has_owner.ensures ∙ ap (list_any (λ item. is_some item.owner)) c.as_slice.ensures.value) c.if-not-has_owner.false

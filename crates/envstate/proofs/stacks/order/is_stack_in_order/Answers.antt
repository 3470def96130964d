use Rattle.std.proofs.Common.{sym, ap, ◌∙◌, map}
use Rattle.std.specs.Prelude.{is_some}
use Rattle.std.specs.List.{list_any, list_all}
use Rattle.std.specs.Option.{option_map}
use Rattle.envvars.specs.Texts.{slice_texts}
use Rattle.envstate.specs.stacks.StackItems.{item_in, items_of_vec}
use Rattle.envstate.specs.stacks.StackVariables.{is_loaded_owner}
use Rattle.envstate.proofs.stacks.StackEdits.{any_owned}
use Rattle.envstate.proofs.stacks.StackInOrder.{read_is, unread_unordered, unowned, stranger_owns, order_decided}
use Rattle.envstate.proofs.stacks.order.is_stack_in_order.Goals as goal
use Rattle.envstate.proofs.stacks.order.is_stack_in_order.Goals.{then-not-has_owner-via-then-not-has_owner}
use Rattle.envstate.proofs.stacks.order.is_stack_in_order.Goals.{then-not-has_owner-via-else-not-has_owner+then-not-are_of_loaded}

pub returns-in_default-2 : goal.returns-in_default-2
returns-in_default-2 c =
    unread_unordered (slice_texts c.args.loaded.now) c.args.env.now c.args.variable.now c.as_str.result.now
    c.in-Some.text.now (option_map items_of_vec c.in_ok-items.field-0) c.requires
    (c.as_str.ensures.value ∙ c.in_ok-stack.ensures) c.in-Some.ensures
    c.in_ok-items.ensures (ap (option_map items_of_vec) c.in_default-2.is)

pub returns-then-not-has_owner : goal.returns-then-not-has_owner
returns-then-not-has_owner c =
    let read = read_is c.args.env.now c.args.variable.now c.as_str.result.now c.in-Some.text.now
    (option_map items_of_vec c.in_ok-items.field-0) (items_of_vec c.in-Some-2.items)
    (c.as_str.ensures.value ∙ c.in_ok-stack.ensures) c.in-Some.ensures c.in_ok-items.ensures
    (ap (option_map items_of_vec) c.in-Some-2.is) in
    elim c.then-not-has_owner.branch [
      | then-not-has_owner-via-then-not-has_owner w ↦
          unowned (slice_texts c.args.loaded.now) c.args.env.now c.args.variable.now (items_of_vec c.in-Some-2.items) c.requires read
          (sym (any_owned c.in-Some-2.items.items) ∙ (sym (c.has_owner.ensures ∙ ap (list_any (λ item. is_some item.owner)) c.as_slice.ensures.value) ∙ w.if-not-has_owner.true))
      | then-not-has_owner-via-else-not-has_owner+then-not-are_of_loaded w ↦
          stranger_owns (slice_texts c.args.loaded.now) c.args.env.now c.args.variable.now (items_of_vec c.in-Some-2.items) c.requires read
          (sym
          (w.are_of_loaded.ensures ∙ ap (λ l. list_all (λ item. is_loaded_owner (slice_texts c.args.loaded.now) item.0) (map item_in l)) w.as_slice-else-not-has_owner.ensures.value)
          ∙ w.if-not-are_of_loaded.true)
    ]

pub returns : goal.returns
returns c =
    order_decided c.are_held.result (slice_texts c.args.loaded.now) c.args.env.now c.args.variable.now (items_of_vec c.in-Some-2.items) (map item_in c.as_slice-2.result.now) c.requires
    (read_is c.args.env.now c.args.variable.now c.as_str.result.now c.in-Some.text.now
    (option_map items_of_vec c.in_ok-items.field-0) (items_of_vec c.in-Some-2.items)
    (c.as_str.ensures.value ∙ c.in_ok-stack.ensures) c.in-Some.ensures c.in_ok-items.ensures
    (ap (option_map items_of_vec) c.in-Some-2.is))
    (sym (any_owned c.in-Some-2.items.items) ∙ (sym (c.has_owner.ensures ∙ ap (list_any (λ item. is_some item.owner)) c.as_slice.ensures.value) ∙ c.if-not-has_owner.false))
    (sym
    (c.are_of_loaded.ensures ∙ ap (λ l. list_all (λ item. is_loaded_owner (slice_texts c.args.loaded.now) item.0) (map item_in l)) c.as_slice-else-not-has_owner.ensures.value)
    ∙ c.if-not-are_of_loaded.false)
    (ap (map item_in) c.as_slice-2.ensures.value) c.are_held.ensures

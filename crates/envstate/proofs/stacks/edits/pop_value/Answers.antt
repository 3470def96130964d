use Rattle.std.proofs.Common.{ap, ◌∙◌, map, string_bytes}
use Rattle.std.specs.Prelude.{if◌then◌else◌}
use Rattle.std.specs.Option.{option_map}
use Rattle.std.specs.List.{list_any}
use Rattle.envstate.specs.stacks.Stacks.{is_owner, visible, on_top}
use Rattle.envstate.specs.stacks.StackItems.{item_in, items_of_vec}
use Rattle.envvars.proofs.EditLemmas.{written_edits}
use Rattle.envstate.proofs.stacks.StackEdits.{stack_read, no_pop, pop_kept, pop_made, holds_is}
use Rattle.envstate.proofs.stacks.edits.pop_value.Goals as goal

pub returns-in_default-clause-edits : goal.returns-in_default-clause-edits
returns-in_default-clause-edits g c =
    no_pop (g.V.Vars.vars c.args.env.now) c.args.var.now c.args.owner.now (string_bytes c.in_ok-from_str.field-0) (option_map items_of_vec c.in_ok-items.field-0) c.in_ok-judge_pop.ensures
    (stack_read (g.V.Vars.vars c.args.env.now) c.args.var.now (option_map items_of_vec c.in_ok-items.field-0)
    (option_map (λ x. x.now) c.get.result) c.as_str.result.now c.in_ok-items.ensures c.get.ensures
    (c.as_str.ensures.value ∙ c.in_ok-name.ensures))
    (ap (option_map items_of_vec) c.in_default.is) c.in_ok-from_str.ensures.ok

pub returns-then-not-holds-clause-edits : goal.returns-then-not-holds-clause-edits
returns-then-not-holds-clause-edits g c =
    pop_kept (g.V.Vars.vars c.args.env.now) c.args.var.now c.args.owner.now (items_of_vec c.in-Some.items) (option_map items_of_vec c.in_ok-items.field-0) c.holds.result c.in_ok-judge_pop.ensures
    (stack_read (g.V.Vars.vars c.args.env.now) c.args.var.now (option_map items_of_vec c.in_ok-items.field-0)
    (option_map (λ x. x.now) c.get.result) c.as_str.result.now c.in_ok-items.ensures c.get.ensures
    (c.as_str.ensures.value ∙ c.in_ok-name.ensures))
    (ap (option_map items_of_vec) c.in-Some.is)
    (c.holds.ensures ∙ ap (list_any (λ item. is_owner c.args.owner.now (option_map string_bytes item.owner)))
    c.as_slice.ensures.value ∙ holds_is c.args.owner.now c.in-Some.items.items) c.if-not-holds.true

pub returns-clause-edits : goal.returns-clause-edits
returns-clause-edits g c =
    written_edits c.write_stack.result (g.V.Vars.vars c.args.env.now) (g.V.Vars.vars c.write_stack.new.env) _ _
    (pop_made (g.V.Vars.vars c.args.env.now) c.args.var.now c.args.owner.now (items_of_vec c.in-Some.items)
    (items_of_vec c.take_out.new.items) (map item_in c.as_slice-4.result.now)
    (option_map items_of_vec c.in_ok-items.field-0)
    c.holds.result c.is_on_top-was_top.result (option_map (λ x. x.now) c.get-2.result) (option_map string_bytes c.in_ok-value.value) c.in_ok-judge_pop.ensures
    (stack_read (g.V.Vars.vars c.args.env.now) c.args.var.now (option_map items_of_vec c.in_ok-items.field-0)
    (option_map (λ x. x.now) c.get.result) c.as_str.result.now c.in_ok-items.ensures c.get.ensures
    (c.as_str.ensures.value ∙ c.in_ok-name.ensures))
    (ap (option_map items_of_vec) c.in-Some.is)
    (c.holds.ensures ∙ ap (list_any (λ item. is_owner c.args.owner.now (option_map string_bytes item.owner)))
    c.as_slice.ensures.value ∙ holds_is c.args.owner.now c.in-Some.items.items) c.if-not-holds.false
    (c.is_on_top-was_top.ensures ∙ ap (λ l. on_top c.args.owner.now (map item_in l)) c.as_slice-2.ensures.value)
    c.take_out.ensures c.get-2.ensures
    (c.in_ok-value.ensures ∙ ap (λ l. if c.is_on_top-was_top.result then visible (map item_in l) else option_map (λ x. x.now) c.get-2.result) c.as_slice-3.ensures.value)
    (ap (map item_in) c.as_slice-4.ensures.value ∙ c.drop_lone_bottom.ensures))
    c.write_stack.ensures.ok c.write_stack.ensures.err c.write_stack.ensures.only

use Rattle.std.proofs.Common.{ap, ◌∙◌, map, Some}
use Rattle.std.specs.Option.{option_map}
use Rattle.envstate.specs.stacks.StackItems.{item_in, items_of_vec}
use Rattle.envvars.proofs.EditLemmas.{written_edits}
use Rattle.envstate.proofs.stacks.StackEdits.{stack_read, push_made}
use Rattle.envstate.proofs.stacks.edits.push_value.Goals as goal

pub returns-clause-edits : goal.returns-clause-edits
returns-clause-edits g c =
    written_edits c.write_stack.result (g.V.Vars.vars c.args.env.now) (g.V.Vars.vars c.write_stack.new.env) _ _
    (push_made (g.V.Vars.vars c.args.env.now) c.args.var.now c.args.owner.now c.args.value.now
    (items_of_vec c.in-Some.items) (map item_in c.as_slice.result.now)
    (option_map items_of_vec c.in_ok-items.field-0)
    (option_map (λ x. x.now) c.get-2.result) _ c.in_ok-judge_push.ensures
    (stack_read (g.V.Vars.vars c.args.env.now) c.args.var.now (option_map items_of_vec c.in_ok-items.field-0)
    (option_map (λ x. x.now) c.get.result) c.as_str.result.now c.in_ok-items.ensures c.get.ensures
    (c.as_str.ensures.value ∙ c.in_ok-name.ensures))
    (ap (option_map items_of_vec) c.in-Some.is) c.get-2.ensures (ap (map item_in) c.as_slice.ensures.value ∙ c.in_ok-stack.ensures) (ap Some c.in_ok-from_str-2.ensures.ok))
    c.write_stack.ensures.ok c.write_stack.ensures.err c.write_stack.ensures.only

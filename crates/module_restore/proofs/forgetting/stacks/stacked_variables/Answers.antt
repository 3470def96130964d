use Rattle.module_restore.proofs.forgetting.StackNames.{all_stacked}
use Rattle.module_restore.proofs.forgetting.stacks.stacked_variables.Goals as goal

pub returns : goal.returns
returns c = all_stacked c.args.env.now _ c.push_names.new.names.items c.as_slice.result.now c.as_slice.ensures.value c.stacked_among.result c.in_ok-push_names.ensures c.stacked_among.ensures

use Rattle.std.proofs.Common.{length}
use Rattle.envstate.proofs.loaded_list.LoadedReading.{more_is}
use Rattle.envstate.proofs.loaded_list.LoadedWriting.{group_is}
use Rattle.envstate.proofs.loaded_list.writing.is_group.Goals as goal

pub returns-then-not-is_empty : goal.returns-then-not-is_empty
returns-then-not-is_empty c = group_is c.args.names.now c.are_names.result (more_is c.is_empty.result (length c.args.names.now) c.is_empty.ensures c.if-not-is_empty.true) c.are_names.ensures

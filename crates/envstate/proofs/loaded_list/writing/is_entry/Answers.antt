use Rattle.std.proofs.Common.{◌∙◌}
use Rattle.envstate.proofs.loaded_list.LoadedWriting.{and_then, and_else, words_are}
use Rattle.envstate.proofs.loaded_list.writing.is_entry.Goals as goal

pub returns-then-can_write_name : goal.returns-then-can_write_name
returns-then-can_write_name c = and_then c.can_write_name.result _ _ _ c.can_write_name.ensures c.if-can_write_name.true (c.can_write_requirements.ensures ∙ words_are c.args.entry.now)

pub returns-else-can_write_name : goal.returns-else-can_write_name
returns-else-can_write_name c = c.if-can_write_name.false ∙ and_else c.can_write_name.result _ _ c.can_write_name.ensures c.if-can_write_name.false

use Rattle.std.proofs.Common.{rules}
use Rattle.tclcommands.proofs.lists.append_elements.Goals as goal

pub extend_list-requires : goal.extend_list-requires
extend_list-requires c = record { location = c.requires; list = search rules; read = search rules }

pub rewrite_list-requires : goal.rewrite_list-requires
rewrite_list-requires c = c.requires

pub returns-then-holds_list : goal.returns-then-holds_list
returns-then-holds_list c = c.extend_list.ensures

pub returns : goal.returns
returns c = c.rewrite_list.ensures

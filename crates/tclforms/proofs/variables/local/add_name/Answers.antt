use Rattle.std.proofs.Common.{sym, ◌∙◌}
use Rattle.tclforms.proofs.variables.Names.{with_there, with_inserted}
use Rattle.tclforms.proofs.variables.local.add_name.Goals as goal

pub returns-then-contains-clause-ok : goal.returns-then-contains-clause-ok
returns-then-contains-clause-ok c = with_there c.args.name.now c.args.names.now.keys (sym c.contains.ensures ∙ c.if-contains.true)

pub returns-clause-ok : goal.returns-clause-ok
returns-clause-ok c = rw (← c.in_ok-from_str.ensures.ok) (with_inserted c.args.names.now.keys c.insert.new.self.keys c.in_ok-from_str.field-0 c.in_ok-insert.ensures.keys)

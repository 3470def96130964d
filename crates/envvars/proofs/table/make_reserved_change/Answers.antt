use Rattle.std.proofs.Common.{Some, string_bytes}
use Rattle.envvars.proofs.TableLemmas.{ok_then, slot-updated}
use Rattle.envvars.proofs.table.make_reserved_change.Goals as goal

pub returns-clause-written : goal.returns-clause-written
returns-clause-written c = slot-updated c.args.table.now c.insert.new.self (string_bytes c.args.name)
    (Some c.args.value) (ok_then c.insert.result (c.insert.ensures.succeeds c.requires) c.insert.ensures.updates)

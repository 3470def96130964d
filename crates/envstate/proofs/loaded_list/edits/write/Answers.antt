use Rattle.std.proofs.Common.{map}
use Rattle.envvars.specs.Changes.{new_values_in}
use Rattle.envstate.specs.loaded_list.LoadedEntries.{entry_view}
use Rattle.envstate.proofs.loaded_list.LoadedNeeded.{needed_ok}
use Rattle.envstate.proofs.loaded_list.edits.write.Goals as goal

pub returns-clause-ok : goal.returns-clause-ok
returns-clause-ok g c =
    needed_ok c.apply.result (g.V.Vars.vars c.args.env.now) (g.V.Vars.vars c.apply.new.self) (map entry_view c.args.list.now.entries.items)
    (new_values_in c.in_ok-changes.changes) c.in_ok-changes.ensures c.apply.ensures.ok

use Rattle.std.proofs.Common.{map}
use Rattle.envstate.specs.loaded_list.LoadedEntries.{entry_view}
use Rattle.audit_site.proofs.files.check_loaded.Goals as goal

pub returns-clause-fit : goal.returns-clause-fit
returns-clause-fit c = (map entry_view c.in_ok-loaded.field-0.items, c.in_ok-loaded.ensures)

use Rattle.std.proofs.Common.{rules, tests, string_bytes, ◌∙◌}
use Rattle.std.proofs.lemmas.Iterator.Search.{any_from_yields_List}
use Rattle.std.proofs.lemmas.Iterator.{YieldsList-from_slice}
use Rattle.modulename.specs.ModuleName.{means}
use Rattle.envstate.specs.loaded_list.Loaded.{Entry}
use Rattle.envstate.specs.loaded_list.LoadedEntries.{entry_view}
use Rattle.envstate.specs.declared.loaded_list.entry.Loaded.{Loaded}
use Rattle.module_reports.proofs.listings.ListLemmas.{any_seen}
use Rattle.module_reports.proofs.listings.hints.is_loaded.Goals as goal

pub returns : goal.returns
returns c =
    any_from_yields_List (λ (x : Loaded). means c.args.name.now (string_bytes x.name)) _ _ c.any.result
    c.any.ensures.ran (YieldsList-from_slice c.args.entries.now cc) (λ x b q k. search (rules, tests))
    ∙ any_seen (λ (x : Entry). means c.args.name.now x.name) entry_view c.args.entries.now

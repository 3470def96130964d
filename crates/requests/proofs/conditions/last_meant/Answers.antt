use Rattle.std.proofs.Common.{find, reverse, rules, tests, string_bytes, ◌∙◌, ap}
use Rattle.std.proofs.lemmas.Iterator.Search.{find_from_yields_List}
use Rattle.std.proofs.lemmas.Iterator.Adapters.{YieldsList-from_rev_slice}
use Rattle.modulename.specs.ModuleName.{means}
use Rattle.envstate.specs.loaded_list.Loaded.{Entry}
use Rattle.envstate.specs.loaded_list.LoadedEntries.{entry_view}
use Rattle.envstate.specs.declared.loaded_list.entry.Loaded.{Loaded}
use Rattle.requests.proofs.ListLemmas.{find_seen, map-reverse}
use Rattle.requests.proofs.conditions.last_meant.Goals as goal

pub returns : goal.returns
returns c =
    find_seen (λ (x : Entry). means c.args.name.now x.name) entry_view (reverse c.args.entries.now) c.find.result
    (find_from_yields_List (λ (x : Loaded). means c.args.name.now (string_bytes x.name)) _ _ c.find.result
    c.find.ensures.ran (YieldsList-from_rev_slice c.args.entries.now cc) (λ x b q k. search (rules, tests)))
    ∙ ap (find (λ (x : Entry). means c.args.name.now x.name)) (map-reverse entry_view c.args.entries.now)

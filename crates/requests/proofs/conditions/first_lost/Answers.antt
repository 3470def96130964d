use Rattle.std.proofs.Common.{map, rules, tests}
use Rattle.std.proofs.lemmas.Iterator.Search.{find_from_yields_List}
use Rattle.std.proofs.lemmas.Iterator.{YieldsList-from_slice}
use Rattle.envstate.specs.loaded_list.LoadedEntries.{entry_view}
use Rattle.envstate.specs.declared.loaded_list.entry.Loaded.{Loaded}
use Rattle.requests.specs.Conditions.{has_lost}
use Rattle.requests.proofs.ListLemmas.{find_seen}
use Rattle.requests.proofs.conditions.first_lost.Goals as goal

pub returns : goal.returns
returns c =
    find_seen (has_lost (map entry_view c.args.before.now) (map entry_view c.args.after.now)) entry_view c.args.after.now c.find.result
    (find_from_yields_List (λ (x : Loaded). has_lost (map entry_view c.args.before.now)
    (map entry_view c.args.after.now) (entry_view x)) _ _ c.find.result c.find.ensures.ran
    (YieldsList-from_slice c.args.after.now cc) (λ x b q k. search (rules, tests)))

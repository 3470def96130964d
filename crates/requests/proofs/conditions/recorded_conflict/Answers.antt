use Rattle.std.proofs.Common.{rules, tests}
use Rattle.std.specs.List.{list_any}
use Rattle.std.proofs.lemmas.Iterator.Search.{find_from_yields_List}
use Rattle.std.proofs.lemmas.Iterator.{YieldsList-from_slice}
use Rattle.modulename.specs.ModuleName.{means}
use Rattle.envvars.specs.Texts.{texts_in}
use Rattle.envstate.specs.loaded_list.Loaded.{Entry}
use Rattle.envstate.specs.loaded_list.LoadedEntries.{entry_view}
use Rattle.envstate.specs.declared.loaded_list.entry.Loaded.{Loaded}
use Rattle.requests.proofs.ListLemmas.{find_seen}
use Rattle.requests.proofs.conditions.recorded_conflict.Goals as goal

pub returns : goal.returns
returns c =
    find_seen (λ (x : Entry). list_any (λ n. means n c.args.name.now) x.conflicts) entry_view c.args.entries.now c.find.result
    (find_from_yields_List (λ (x : Loaded). list_any (λ n. means n c.args.name.now) (texts_in x.conflicts)) _ _
    c.find.result c.find.ensures.ran (YieldsList-from_slice c.args.entries.now cc)
    (λ x b q k. search (rules, tests)))

use Rattle.std.proofs.Common.{rules, tests, string_bytes}
use Rattle.std.specs.Prelude.{nat_eq}
use Rattle.std.specs.List.{starts_with}
use Rattle.std.proofs.lemmas.Iterator.Search.{find_from_yields_List}
use Rattle.std.proofs.lemmas.Iterator.{YieldsList-from_slice}
use Rattle.envstate.specs.loaded_list.LoadedEntries.{entry_view}
use Rattle.envstate.specs.declared.loaded_list.entry.Loaded.{Loaded}
use Rattle.requests.proofs.ListLemmas.{find_seen}
use Rattle.module_reports.specs.listings.Hints.{begins}
use Rattle.module_reports.proofs.listings.hints.begun.Goals as goal

pub returns : goal.returns
returns c =
    find_seen (begins c.args.name.now) entry_view c.args.entries.now c.find.result
    (find_from_yields_List (λ (x : Loaded). starts_with nat_eq (string_bytes x.name) c.args.name.now) _ _ c.find.result
    c.find.ensures.ran (YieldsList-from_slice c.args.entries.now cc) (λ x b q k. search (rules, tests)))

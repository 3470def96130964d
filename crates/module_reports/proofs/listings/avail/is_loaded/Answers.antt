use Rattle.std.proofs.Common.{rules, tests, string_bytes, bytes_eq, ◌∙◌}
use Rattle.std.proofs.lemmas.Iterator.Search.{any_from_yields_List}
use Rattle.std.proofs.lemmas.Iterator.{YieldsList-from_slice}
use Rattle.envstate.specs.loaded_list.Loaded.{Entry}
use Rattle.envstate.specs.loaded_list.LoadedEntries.{entry_view}
use Rattle.envstate.specs.declared.loaded_list.entry.Loaded.{Loaded}
use Rattle.module_reports.proofs.listings.ListLemmas.{any_seen}
use Rattle.module_reports.proofs.listings.avail.is_loaded.Goals as goal

pub returns : goal.returns
returns c =
    any_from_yields_List (λ (x : Loaded). bytes_eq (string_bytes x.path) c.args.path.now) _ _ c.any.result
    c.any.ensures.ran (YieldsList-from_slice c.args.loaded.now cc) (λ x b q k. search (rules, tests))
    ∙ any_seen (λ (x : Entry). bytes_eq x.path c.args.path.now) entry_view c.args.loaded.now

use Rattle.std.proofs.Common.{rules, tests, ◌∙◌}
use Rattle.std.proofs.lemmas.Iterator.Search.{any_from_yields_List}
use Rattle.std.proofs.lemmas.Iterator.{YieldsList-from_slice}
use Rattle.envstate.specs.loaded_list.LoadedEntries.{entry_view}
use Rattle.envstate.specs.declared.loaded_list.entry.Loaded.{Loaded}
use Rattle.requests.proofs.ListLemmas.{any_seen}
use Rattle.modules.specs.Parts.{needs_another}
use Rattle.modules.proofs.step.any_needs.Goals as goal

pub returns : goal.returns
returns c =
    any_from_yields_List (λ (x : Loaded). needs_another (entry_view x)) _ _ c.any.result c.any.ensures.ran (YieldsList-from_slice c.args.entries.now cc) (λ x b q k. search (rules, tests))
    ∙ any_seen needs_another entry_view c.args.entries.now

use Rattle.std.proofs.Common.{map, rules, tests, string_bytes, ◌∙◌}
use Rattle.std.specs.List.{list_any}
use Rattle.std.proofs.lemmas.Iterator.Search.{any_from_yields_List}
use Rattle.std.proofs.lemmas.Iterator.{YieldsList-from_slice}
use Rattle.modulename.specs.ModuleName.{means}
use Rattle.envvars.specs.Texts.{Text}
use Rattle.envstate.specs.loaded_list.LoadedEntries.{entry_view}
use Rattle.std.specs.declared.string.String.{String}
use Rattle.std.specs.declared.alloc.Global.{Global}
use Rattle.module_words.proofs.function.ListLemmas.{any_seen}
use Rattle.module_words.proofs.function.loaded.mean_one.Goals as goal

pub returns : goal.returns
returns c =
    any_from_yields_List (λ (s : String Global). list_any (λ x. means (string_bytes s) x.name)
    (map entry_view c.args.entries.now)) _ _ c.any.result c.any.ensures.ran
    (YieldsList-from_slice c.args.names.now cc) (λ x b q k. search (rules, tests))
    ∙ any_seen (λ (t : Text). list_any (λ x. means t x.name) (map entry_view c.args.entries.now)) (λ (s : String Global). string_bytes s) c.args.names.now

use Rattle.std.proofs.Common.{List, map, rules, tests, not}
use Rattle.std.proofs.lemmas.Iterator.Search.{find_from_yields_List}
use Rattle.std.proofs.lemmas.Iterator.{YieldsList-from_slice}
use Rattle.envvars.specs.Texts.{Text, texts_in}
use Rattle.envstate.specs.loaded_list.LoadedEntries.{entry_view}
use Rattle.std.specs.declared.vec.Vec.{Vec}
use Rattle.std.specs.declared.string.String.{String}
use Rattle.std.specs.declared.alloc.Global.{Global}
use Rattle.requests.specs.Conditions.{is_met}
use Rattle.requests.proofs.ListLemmas.{find_seen}
use Rattle.requests.proofs.conditions.missing_group.Goals as goal

pub returns : goal.returns
returns c =
    find_seen (λ (group : List Text). not (is_met (map entry_view c.args.entries.now) group)) texts_in c.args.groups.now c.find.result
    (find_from_yields_List (λ (v : Vec (String Global) Global). not
    (is_met (map entry_view c.args.entries.now) (texts_in v))) _ _ c.find.result c.find.ensures.ran
    (YieldsList-from_slice c.args.groups.now cc) (λ x b q k. search (rules, tests)))

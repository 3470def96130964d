use Rattle.std.proofs.Common.{List, map, rules, tests, not, ◌&&◌, ◌∙◌}
use Rattle.std.proofs.lemmas.Iterator.Search.{any_from_yields_List}
use Rattle.std.proofs.lemmas.Iterator.{YieldsList-from_slice}
use Rattle.envvars.specs.Texts.{Text, texts_in}
use Rattle.envstate.specs.loaded_list.LoadedEntries.{entry_view}
use Rattle.std.specs.declared.vec.Vec.{Vec}
use Rattle.std.specs.declared.string.String.{String}
use Rattle.std.specs.declared.alloc.Global.{Global}
use Rattle.requests.specs.Conditions.{is_met}
use Rattle.requests.proofs.ListLemmas.{any_seen}
use Rattle.requests.proofs.conditions.has_lost_group.Goals as goal

pub returns : goal.returns
returns c =
    any_from_yields_List (λ (v : Vec (String Global) Global). is_met (map entry_view c.args.before.now) (texts_in v) &&
    not (is_met (map entry_view c.args.after.now) (texts_in v))) _ _ c.any.result c.any.ensures.ran
    (YieldsList-from_slice c.args.groups.now cc) (λ x b q k. search (rules, tests))
    ∙ any_seen (λ (group : List Text). is_met (map entry_view c.args.before.now) group && not (is_met (map entry_view c.args.after.now) group)) texts_in c.args.groups.now

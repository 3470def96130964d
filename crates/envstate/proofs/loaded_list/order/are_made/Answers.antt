use Rattle.std.proofs.Common.{rules, tests, refl, sym, ◌∙◌, string_bytes}
use Rattle.std.specs.Option.{option_map}
use Rattle.std.proofs.lemmas.Bool.Decides.{same_from_decides}
use Rattle.std.proofs.lemmas.Iterator.Search.{all_from_yields_List}
use Rattle.std.proofs.lemmas.Iterator.{YieldsList-from_slice}
use Rattle.std.proofs.lemmas.List.Folds.{list_all-map}
use Rattle.envvars.specs.Environment.{lookup}
use Rattle.envvars.specs.Changes.{NewValue, new_value_of, same_value}
use Rattle.envvars.specs.declared.change.Change.{Change}
use Rattle.envvars.proofs.ChangeLemmas.{same_value_is}
use Rattle.envstate.proofs.loaded_list.order.are_made.Goals as goal

pub returns : goal.returns
returns c =
    all_from_yields_List
    (λ (x : Change). same_value (lookup c.args.env.now (string_bytes x.name)) (option_map string_bytes x.value)) _ _ _
    c.all.ensures.ran (YieldsList-from_slice c.args.changes.now cc)
    (λ x b q k. (
      search (rules, tests),
      same_from_decides _ _ (search (rules, tests))
          (same_value_is _ (lookup c.args.env.now (string_bytes x.now.name)) (option_map string_bytes x.now.value) refl),
    ))
    ∙ sym (list_all-map (λ (d : NewValue). same_value (lookup c.args.env.now d.0) d.1) new_value_of c.args.changes.now)

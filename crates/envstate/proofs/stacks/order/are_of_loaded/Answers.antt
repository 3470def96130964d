use Rattle.std.proofs.Common.{rules, tests, sym, ◌∙◌, string_bytes}
use Rattle.std.specs.Option.{option_map}
use Rattle.std.proofs.lemmas.Iterator.Search.{all_from_yields_List}
use Rattle.std.proofs.lemmas.Iterator.{YieldsList-from_slice}
use Rattle.std.proofs.lemmas.List.Folds.{list_all-map}
use Rattle.envvars.specs.Texts.{slice_texts}
use Rattle.envstate.specs.declared.stacks.texts.StackItem.{StackItem}
use Rattle.envstate.specs.stacks.Stacks.{OwnedValue}
use Rattle.envstate.specs.stacks.StackItems.{item_in}
use Rattle.envstate.specs.stacks.StackVariables.{is_loaded_owner}
use Rattle.envstate.proofs.stacks.order.are_of_loaded.Goals as goal

pub returns : goal.returns
returns c =
    all_from_yields_List
    (λ (x : StackItem). is_loaded_owner (slice_texts c.args.loaded.now) (option_map string_bytes x.owner)) _ _ _
    c.all.ensures.ran (YieldsList-from_slice c.args.items.now cc) (λ x b q k. search (rules, tests))
    ∙ sym (list_all-map (λ (item : OwnedValue). is_loaded_owner (slice_texts c.args.loaded.now) item.0) item_in c.args.items.now)

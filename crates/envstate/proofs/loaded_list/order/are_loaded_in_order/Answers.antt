use Rattle.std.proofs.Common.{sym, ap, ◌∙◌, map, Vec, Global}
use Rattle.std.specs.List.{list_all}
use Rattle.std.specs.Option.{option_map}
use Rattle.envvars.specs.Environment.{lookup}
use Rattle.envvars.specs.Changes.{NewValue, new_value_of, same_value}
use Rattle.envstate.specs.declared.loaded_list.entry.Loaded.{Loaded}
use Rattle.envstate.specs.loaded_list.LoadedEntries.{entry_view}
use Rattle.envstate.specs.loaded_list.NeededChanges.{needed_changes}
use Rattle.envstate.proofs.loaded_list.LoadedNeeded.{needed_made}
use Rattle.envstate.proofs.loaded_list.LoadedOrder.{order_decided, unread_unordered}
use Rattle.envstate.proofs.loaded_list.order.are_loaded_in_order.Goals as goal

pub returns-in_default : goal.returns-in_default
returns-in_default c =
    unread_unordered c.args.env.now (sym c.in_ok-list.ensures ∙ ap (option_map (λ (v : Vec Loaded Global). map entry_view v.items)) c.in_default.is)

pub returns : goal.returns
returns c =
    order_decided c.args.env.now (map entry_view c.in-Some.list.items) c.are_made.result (sym c.in_ok-list.ensures ∙ ap (option_map (λ (v : Vec Loaded Global). map entry_view v.items)) c.in-Some.is)
    (c.are_made.ensures ∙ ap (λ l. list_all (λ (d : NewValue). same_value (lookup c.args.env.now d.0) d.1) (map new_value_of l)) c.as_slice.ensures.value
    ∙ ap (list_all (λ (d : NewValue). same_value (lookup c.args.env.now d.0) d.1)) (c.in_ok-changes.ensures ∙ ap (λ v. needed_changes c.args.env.now (map entry_view v.items)) (c.in_ok-written.ensures.0 ∙ c.in_ok-of.ensures))
    ∙ needed_made c.args.env.now (map entry_view c.in-Some.list.items))

use Rattle.std.proofs.Common.{Some, List, Option, ap, ◌∙◌, map, subst, sym}
use Rattle.envvars.specs.Reasons.{Edits}
use Rattle.envstate.specs.loaded_list.LoadedEntries.{entry_view}
use Rattle.envstate.specs.loaded_list.Loaded.{Entry, dropped_from}
use Rattle.envstate.proofs.loaded_list.edits.drop_loaded.Goals as goal

pub returns-clause-edits : goal.returns-clause-edits
returns-clause-edits g c =
    let e = g.V.Vars.vars c.args.env.now in
    subst (λ (o : Option (List Entry)). Edits c.drop_from_list.result e (g.V.Vars.vars c.drop_from_list.new.env) (dropped_from e c.args.name.now o))
    (ap (λ v. Some (map entry_view v.items)) c.in_ok-list.ensures ∙ sym c.in_ok-loaded.ensures) c.drop_from_list.ensures.edits

use Rattle.std.proofs.Common.{[], ◌∷◌, ◌++◌, ap, ◌∙◌, map, Ok, sym}
use Rattle.envstate.specs.loaded_list.LoadedEntries.{entry_view}
use Rattle.envstate.specs.loaded_list.Loaded.{with_conflicts_once, can_be_added, with_loaded}
use Rattle.envvars.proofs.EditLemmas.{written_edits}
use Rattle.envstate.proofs.loaded_list.LoadedWriting.{added_is, on_any, pushed_is}
use Rattle.envstate.proofs.loaded_list.edits.add_to_list.Goals as goal

pub returns-clause-edits : goal.returns-clause-edits
returns-clause-edits g c =
    let e = g.V.Vars.vars c.args.env.now in
    let x = entry_view c.args.entry in
    let xs = c.args.list.now.entries.items in
    let grown = ap (λ v. v.items) c.in_ok-list.ensures.0 ∙ c.in_ok-with.ensures
    ∙ ap (λ l. l.entries.items ++ c.in_ok-entry.entry ∷ []) c.replace-old.ensures.value in
    let listed = pushed_is xs c.in_ok-list.field-0.entries.items c.in_ok-entry.entry (with_conflicts_once x) grown c.in_ok-entry.ensures in
    written_edits c.write.result e (g.V.Vars.vars c.write.new.env) _ _
    (added_is e x (map entry_view xs) c.can_be_added.result
    (c.can_be_added.ensures ∙ ap (λ l. can_be_added (map entry_view l) x) c.entries.ensures) c.if-not-can_be_added.false
    ∙ ap (λ l. Ok (with_loaded e l)) (sym listed))
    c.write.ensures.ok c.write.ensures.err c.write.ensures.only

pub returns-clause-list : goal.returns-clause-list
returns-clause-list g c =
    let grown = ap (λ v. v.items) c.in_ok-list.ensures.0 ∙ c.in_ok-with.ensures
    ∙ ap (λ l. l.entries.items ++ c.in_ok-entry.entry ∷ []) c.replace-old.ensures.value in
    on_any c.write.result (pushed_is c.args.list.now.entries.items c.in_ok-list.field-0.entries.items c.in_ok-entry.entry
    (with_conflicts_once (entry_view c.args.entry)) grown c.in_ok-entry.ensures)

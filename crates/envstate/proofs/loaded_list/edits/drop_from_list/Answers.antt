use Rattle.std.proofs.Common.{ap, ◌∙◌, map, Ok, sym}
use Rattle.envvars.specs.Texts.{has}
use Rattle.envstate.specs.loaded_list.LoadedEntries.{entry_view}
use Rattle.envstate.specs.loaded_list.Loaded.{names_of, with_loaded, without_entry}
use Rattle.envvars.proofs.EditLemmas.{written_edits}
use Rattle.envstate.proofs.loaded_list.LoadedWriting.{dropped_is, not_dropped_is, same_without, on_any}
use Rattle.envstate.proofs.loaded_list.edits.drop_from_list.Goals as goal

pub returns-then-not-is_loaded-clause-edits : goal.returns-then-not-is_loaded-clause-edits
returns-then-not-is_loaded-clause-edits g c =
    not_dropped_is (g.V.Vars.vars c.args.env.now) c.args.name.now (map entry_view c.args.list.now.entries.items) c.is_loaded.result
    (c.is_loaded.ensures ∙ ap (λ l. has c.args.name.now (names_of (map entry_view l))) c.entries.ensures) c.if-not-is_loaded.true

pub returns-then-not-is_loaded-clause-list : goal.returns-then-not-is_loaded-clause-list
returns-then-not-is_loaded-clause-list g c =
    same_without c.args.name.now (map entry_view c.args.list.now.entries.items) c.is_loaded.result
    (c.is_loaded.ensures ∙ ap (λ l. has c.args.name.now (names_of (map entry_view l))) c.entries.ensures) c.if-not-is_loaded.true

pub returns-clause-edits : goal.returns-clause-edits
returns-clause-edits g c =
    let e = g.V.Vars.vars c.args.env.now in
    let xs = map entry_view c.args.list.now.entries.items in
    let left = ap (λ v. map entry_view v.items) c.in_ok-list.ensures.0 ∙ c.in_ok-without.ensures
    ∙ ap (λ l. without_entry c.args.name.now (map entry_view l.entries.items)) c.replace-old.ensures.value in
    written_edits c.write.result e (g.V.Vars.vars c.write.new.env) _ _
    (dropped_is e c.args.name.now xs c.is_loaded.result
    (c.is_loaded.ensures ∙ ap (λ l. has c.args.name.now (names_of (map entry_view l))) c.entries.ensures) c.if-not-is_loaded.false
    ∙ ap (λ l. Ok (with_loaded e l)) (sym left))
    c.write.ensures.ok c.write.ensures.err c.write.ensures.only

pub returns-clause-list : goal.returns-clause-list
returns-clause-list g c =
    on_any c.write.result (ap (λ v. map entry_view v.items) c.in_ok-list.ensures.0 ∙ c.in_ok-without.ensures
    ∙ ap (λ l. without_entry c.args.name.now (map entry_view l.entries.items)) c.replace-old.ensures.value)

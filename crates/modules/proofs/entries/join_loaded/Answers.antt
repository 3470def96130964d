use Rattle.std.proofs.Common.{◌≡◌, List, map, Some, Ok, Err, ap, ◌∙◌, subst}
use Rattle.std.proofs.lemmas.Result.{err_from_is_err_and}
use Rattle.envvars.specs.Reasons.{EnvReason, reason_of}
use Rattle.envstate.specs.loaded_list.Loaded.{Entry, added_to}
use Rattle.envstate.specs.loaded_list.LoadedEntries.{entry_view}
use Rattle.envstate.specs.declared.loaded_list.entry.Loaded.{Loaded}
use Rattle.requests.specs.Conditions.{load_objection}
use Rattle.modulefile.specs.Moves.{entry_of}
use Rattle.modules.specs.MoveViews.{module_view}
use Rattle.modules.specs.Answers.{cause_of}
use Rattle.modules.specs.Parts.{allowed_entry, added}
use Rattle.modules.proofs.StepLemmas.{stands_as, edit_refused}
use Rattle.modules.proofs.ListedLemmas.{adds_read, listed_added, join_forbidden, join_made}
use Rattle.modules.proofs.entries.join_loaded.Goals as goal

pub returns-in_err-entry-clause-given : goal.returns-in_err-entry-clause-given
returns-in_err-entry-clause-given g c =
    let p = err_from_is_err_and c.from_residual.result c.from_residual.ensures.1 in
    let e = g.V.Vars.vars c.args.env.now in
    let m = module_view c.args.loading.now in
    let ys = map entry_view c.entries.result.now in
    let xs = map entry_view c.args.list.now.entries.items in
    let same : ys ≡ xs = ap (λ (es : List Loaded). map entry_view es) c.entries.ensures in
    rw (p.1, p.2) (stands_as (cause_of c.in_err-entry.field-0.0) ⊥ ⊥ (λ r. Err r ≡ allowed_entry ys m) (λ r. Err r ≡ added xs m e) (λ q. q)
    (λ r h. subst (λ (zs : List Entry). Err r ≡ added zs m e) same (join_forbidden (load_objection m.name m.records ys) (entry_of m) _ r h)) c.in_err-entry.ensures)

pub returns-in_err-add_to_list-clause-given : goal.returns-in_err-add_to_list-clause-given
returns-in_err-add_to_list-clause-given g c =
    let p = err_from_is_err_and c.from_residual-in_err-add_to_list.result c.from_residual-in_err-add_to_list.ensures.1 in
    let old = g.V.Vars.vars c.args.env.now in
    let xs = map entry_view c.args.list.now.entries.items in
    let m = module_view c.args.loading.now in
    let x = entry_view c.in_ok-entry.entry in
    let free : Ok x ≡ allowed_entry xs m = c.in_ok-entry.ensures ∙ ap (λ (es : List Loaded). allowed_entry (map entry_view es) m) c.entries.ensures in
    rw (p.1, p.2) (edit_refused (reason_of c.in_err-add_to_list.field-0.0) (λ (r : EnvReason). added_to old x (Some xs) ≡ Err r) (λ r. Err r ≡ added xs m old)
    (λ r h. join_made old xs m x (Err r) c.requires free h) c.in_err-add_to_list.ensures.edits.1)

pub returns-clause-given : goal.returns-clause-given
returns-clause-given g c =
    let old = g.V.Vars.vars c.args.env.now in
    let xs = map entry_view c.args.list.now.entries.items in
    let m = module_view c.args.loading.now in
    let x = entry_view c.in_ok-entry.entry in
    let free : Ok x ≡ allowed_entry xs m = c.in_ok-entry.ensures ∙ ap (λ (es : List Loaded). allowed_entry (map entry_view es) m) c.entries.ensures in
    join_made old xs m x (Ok (g.V.Vars.vars c.add_to_list.new.env)) c.requires free c.in_ok-add_to_list.ensures.edits

pub returns-clause-listed : goal.returns-clause-listed
returns-clause-listed g c =
    let old = g.V.Vars.vars c.args.env.now in
    let new = g.V.Vars.vars c.add_to_list.new.env in
    let xs = map entry_view c.args.list.now.entries.items in
    let x = entry_view c.in_ok-entry.entry in
    listed_added old new x xs (map entry_view c.add_to_list.new.list.entries.items) c.requires (adds_read (Ok tt) old new x xs c.requires c.in_ok-add_to_list.ensures.edits) c.in_ok-add_to_list.ensures.list

use Rattle.std.proofs.Common.{◌≡◌, List, map, string_bytes, String, Option, Err, refl, sym, ap}
use Rattle.std.proofs.lemmas.Result.{err_from_is_err_and}
use Rattle.std.specs.declared.alloc.Global.{Global}
use Rattle.std.specs.Option.{option_map}
use Rattle.envvars.specs.Environment.{Environment}
use Rattle.envvars.specs.Texts.{Text, texts_in}
use Rattle.filetree.specs.Agreement.{InEachPair}
use Rattle.filetree.proofs.FailedPaths.{only_if}
use Rattle.module_words.specs.modulepath.Faults.{reason_of}
use Rattle.requests.specs.Reasons.{RequestReason}
use Rattle.requests.specs.Requests.{purge}
use Rattle.requests.specs.Steps.{RequestStep, request_context_in}
use Rattle.modules.specs.Answers.{cause_of}
use Rattle.modules.specs.Views.{done_view}
use Rattle.module_restore.specs.Saves.{Keeps, KeepReason, kept, no_path, paths_in}
use Rattle.module_restore.specs.Views.{loaded_names}
use Rattle.module_restore.proofs.KeepLemmas.{keeps_made, kept_so, path_stands, purge_refused, request_stands, unread}
use Rattle.module_restore.proofs.keeping.collection_of.Goals as goal

pub returns-in_err-modules-clause-kept : goal.returns-in_err-modules-clause-kept
returns-in_err-modules-clause-kept g c =
    let p = err_from_is_err_and c.from_residual.result c.from_residual.ensures.1 in
    let w : Option Text = option_map (λ w. w.now) c.args.working in
    let e = c.args.env.now in
    let Kept-so : KeepReason → Type 0 = λ k. InEachPair (g.T.Tree.agrees c.args.tree.now) (λ files listings. Keeps (request_context_in c.args.limits c.args.shell files listings) w e (Err k)) in
    rw (p.1, p.2) (request_stands (cause_of c.in_err-modules.field-0.0) ⊥ _ (λ r. Err r ≡ loaded_names e) Kept-so (λ q. absurd q)
    (λ r k files listings a. unread (request_context_in c.args.limits c.args.shell files listings) w e r k) c.in_err-modules.ensures)

pub returns-in_err-make_changes-clause-kept : goal.returns-in_err-make_changes-clause-kept
returns-in_err-make_changes-clause-kept g c =
    let p = err_from_is_err_and c.from_residual-in_err-make_changes.result c.from_residual-in_err-make_changes.ensures.1 in
    let w : Option Text = option_map (λ w. w.now) c.args.working in
    let e = c.args.env.now in
    let agrees = g.T.Tree.agrees c.make_changes.new.tree in
    let step = rw c.in_ok-purged.ensures.ok at c.in_err-make_changes.ensures.over_tree in
    let Refused-so : RequestReason → Type 0 = λ r. InEachPair agrees (λ files listings. RequestStep (request_context_in c.args.limits c.args.shell files listings) e purge (Err r)) in
    let Kept-so : KeepReason → Type 0 = λ k. InEachPair agrees (λ files listings. Keeps (request_context_in c.args.limits c.args.shell files listings) w e (Err k)) in
    rw (p.1, p.2) (request_stands (cause_of c.in_err-make_changes.field-0.0) _ _ Refused-so Kept-so (λ q. q)
    (λ r k files listings a. purge_refused (request_context_in c.args.limits c.args.shell files listings) w e (texts_in c.in_ok-modules.modules) r c.in_ok-modules.ensures (k files listings a)) step)

pub returns-in_err-make_changes-clause-failed : goal.returns-in_err-make_changes-clause-failed
returns-in_err-make_changes-clause-failed g c = only_if _ _ _ _ (rw c.in_ok-purged.ensures.ok at c.in_err-make_changes.ensures.failed)

pub returns-in_err-paths-clause-kept : goal.returns-in_err-paths-clause-kept
returns-in_err-paths-clause-kept g c =
    let p = err_from_is_err_and c.from_residual-in_err-paths.result c.from_residual-in_err-paths.ensures.1 in
    let w : Option Text = option_map (λ w. w.now) c.args.working in
    let e = c.args.env.now in
    let agrees = g.T.Tree.agrees c.make_changes.new.tree in
    let names : List Text = texts_in c.in_ok-modules.modules in
    let purged : Environment = c.make_changes.new.env in
    let step = rw c.in_ok-purged.ensures.ok at c.in_ok-make_changes.ensures.over_tree in
    let Kept-so : KeepReason → Type 0 = λ k. InEachPair agrees (λ files listings. Keeps (request_context_in c.args.limits c.args.shell files listings) w e (Err k)) in
    rw (p.1, p.2) (path_stands (reason_of c.in_err-paths.field-0.0) _ (λ r. paths_in w purged ≡ Err r) Kept-so
    (λ r k files listings a. keeps_made (request_context_in c.args.limits c.args.shell files listings) w e names (done_view c.in_ok-make_changes.field-0 purged) (Err (no_path r)) c.in_ok-modules.ensures
    (step files listings a) (sym (ap (kept names) k))) c.in_err-paths.ensures)

pub returns-clause-kept : goal.returns-clause-kept
returns-clause-kept g c =
    let w : Option Text = option_map (λ w. w.now) c.args.working in
    let e = c.args.env.now in
    let names : List Text = texts_in c.in_ok-modules.modules in
    let purged : Environment = c.make_changes.new.env in
    let step = rw c.in_ok-purged.ensures.ok at c.in_ok-make_changes.ensures.over_tree in
    λ files listings a.
    keeps_made (request_context_in c.args.limits c.args.shell files listings) w e names (done_view c.in_ok-make_changes.field-0 purged) _ c.in_ok-modules.ensures (step files listings a)
    (kept_so names (texts_in c.in_ok-paths.paths) (map (λ (s : String Global). string_bytes s) c.as_slice.result.now) (texts_in c.in_ok-directories.directories) (paths_in w purged)
    c.in_ok-paths.ensures (ap (map (λ (s : String Global). string_bytes s)) c.as_slice.ensures.value) c.in_ok-directories.ensures _ refl)

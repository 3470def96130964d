use Rattle.std.proofs.Common.{◌≡◌, false, map, not, string_bytes, List, Some, Ok, Err, refl, sym, ap, ◌∙◌, subst}
use Rattle.std.specs.Prelude.{bytes_eq}
use Rattle.std.proofs.lemmas.Result.{err_from_is_err_and}
use Rattle.envvars.specs.Reasons.{EnvReason, reason_of}
use Rattle.envstate.specs.loaded_list.Loaded.{Entry, dropped_from}
use Rattle.envstate.specs.loaded_list.LoadedEntries.{entry_view}
use Rattle.modulefile.specs.Effects as modes
use Rattle.modulefile.specs.Files.{RunsFile}
use Rattle.search.specs.Answers.{found_view}
use Rattle.modulefile_run.specs.Running.{ran_view}
use Rattle.requests.specs.Reasons.{file_refused}
use Rattle.requests.specs.Refusals.{RefusedAs}
use Rattle.requests.specs.Steps.{module_of}
use Rattle.modules.specs.Views.{done_view}
use Rattle.modules.specs.Answers.{cause_of}
use Rattle.modules.specs.Parts.{AreEntriesOf, any_needs, file_context, UnloadsFound}
use Rattle.modules.proofs.StepLemmas.{stands_as, run_made, edit_refused, unloads_so}
use Rattle.modules.proofs.ListedLemmas.{drop_read, listed_dropped}
use Rattle.modules.proofs.NeedLemmas.{none_needs}
use Rattle.modules.proofs.one_name.unload_found.Goals as goal

pub returns-in_err-ran-clause-given : goal.returns-in_err-ran-clause-given
returns-in_err-ran-clause-given g c =
    let p = err_from_is_err_and c.from_residual.result c.from_residual.ensures.1 in
    let a = c.args.name_request in
    let found = found_view c.args.found in
    let d = done_view c.args.progress.now.done (g.V.Vars.vars c.args.env.now) in
    let xs = map entry_view c.args.progress.now.list.entries.items in
    let given = rw (c.of-file.ensures.name, c.of-file.ensures.path, c.of-file.ensures.text) at c.in_err-ran.ensures.given in
    rw (p.1, p.2) (stands_as (cause_of c.in_err-ran.field-0.0) ⊥ ⊥
    (λ r. RefusedAs file_refused (RunsFile a.settings.limits
    (file_context a modes.unload found.name found.path xs d.env) found.text) (Err r))
    (λ r. UnloadsFound a found xs d (Err r)) (λ q. q) (λ r h. (Err r, h, refl)) given)

pub returns-in_err-drop_from_list-clause-given : goal.returns-in_err-drop_from_list-clause-given
returns-in_err-drop_from_list-clause-given g c =
    let p = err_from_is_err_and c.from_residual-in_err-drop_from_list.result c.from_residual-in_err-drop_from_list.ensures.1 in
    let a = c.args.name_request in
    let found = found_view c.args.found in
    let d = done_view c.args.progress.now.done (g.V.Vars.vars c.args.env.now) in
    let xs = map entry_view c.args.progress.now.list.entries.items in
    let mid = g.V.Vars.vars c.evaluate.new.env in
    let ran = ran_view c.in_ok-ran.ran mid in
    let given = rw (c.of-file.ensures.name, c.of-file.ensures.path, c.of-file.ensures.text) at c.in_ok-ran.ensures.given in
    let listed : AreEntriesOf xs mid = c.requires ∙ sym c.in_ok-ran.ensures.listed in
    let edits = rw c.as_str.ensures.value at c.in_err-drop_from_list.ensures.edits in
    let made = run_made a.settings.limits (file_context a modes.unload found.name found.path xs d.env) found.text ran given in
    let m = module_of found.name found.path ran in
    rw (p.1, p.2) (edit_refused (reason_of c.in_err-drop_from_list.field-0.0) (λ (r : EnvReason). dropped_from mid found.name (Some xs) ≡ Err r)
    (λ r. UnloadsFound a found xs d (Err r))
    (λ r h. (Ok ran, given, unloads_so d m ran.messages mid (Err r) made (drop_read mid found.name xs listed (Err r) h))) edits.1)

pub returns-clause-given : goal.returns-clause-given
returns-clause-given g c =
    let a = c.args.name_request in
    let found = found_view c.args.found in
    let d = done_view c.args.progress.now.done (g.V.Vars.vars c.args.env.now) in
    let xs = map entry_view c.args.progress.now.list.entries.items in
    let mid = g.V.Vars.vars c.evaluate.new.env in
    let last = g.V.Vars.vars c.drop_from_list.new.env in
    let ran = ran_view c.in_ok-ran.ran mid in
    let given = rw (c.of-file.ensures.name, c.of-file.ensures.path, c.of-file.ensures.text) at c.in_ok-ran.ensures.given in
    let listed : AreEntriesOf xs mid = c.requires ∙ sym c.in_ok-ran.ensures.listed in
    let edits = rw c.as_str.ensures.value at c.in_ok-drop_from_list.ensures.edits in
    let made = run_made a.settings.limits (file_context a modes.unload found.name found.path xs d.env) found.text ran given in
    let m = module_of found.name found.path ran in (
      Ok ran,
      given,
      ap Ok (c.in_ok-continue_with.ensures (g.V.Vars.vars c.args.env.now) last) ∙ unloads_so d m ran.messages mid (Ok last) made (drop_read mid found.name xs listed (Ok last) edits),
    )

pub returns-clause-listed : goal.returns-clause-listed
returns-clause-listed g c =
    let name = string_bytes c.args.found.name in
    let xs = map entry_view c.args.progress.now.list.entries.items in
    let mid = g.V.Vars.vars c.evaluate.new.env in
    let last = g.V.Vars.vars c.drop_from_list.new.env in
    let listed : AreEntriesOf xs mid = c.requires ∙ sym c.in_ok-ran.ensures.listed in
    let edits = rw c.as_str.ensures.value at c.in_ok-drop_from_list.ensures.edits in
    let left = rw c.as_str.ensures.value at c.in_ok-drop_from_list.ensures.list in
    listed_dropped mid last name xs (map entry_view c.drop_from_list.new.list.entries.items) listed (drop_read mid name xs listed (Ok last) edits) left

pub returns-clause-free : goal.returns-clause-free
returns-clause-free g c h =
    let name = string_bytes c.args.found.name in
    let xs = map entry_view c.args.progress.now.list.entries.items in
    let left = rw c.as_str.ensures.value at c.in_ok-drop_from_list.ensures.list in
    subst (λ (ys : List Entry). any_needs ys ≡ false) (sym left) (none_needs (λ x. not (bytes_eq name x.name)) xs h)

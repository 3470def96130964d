use Rattle.std.proofs.Common.{◌≡◌, false, List, map, Ok, Err, sym, ap, ◌∙◌}
use Rattle.std.proofs.lemmas.Result.{err_from_is_err_and}
use Rattle.envvars.specs.Texts.{Text, has}
use Rattle.envstate.specs.loaded_list.Loaded.{names_of}
use Rattle.envstate.specs.loaded_list.LoadedEntries.{entry_view}
use Rattle.envstate.specs.declared.loaded_list.entry.Loaded.{Loaded}
use Rattle.modulefile.specs.Effects as modes
use Rattle.modulefile.specs.Files.{RunsFile}
use Rattle.search.specs.Answers.{found_view}
use Rattle.modulefile_run.specs.Running.{ran_view}
use Rattle.requests.specs.Reasons.{file_refused}
use Rattle.requests.specs.Refusals.{RefusedAs}
use Rattle.requests.specs.Steps.{LoadsFound, module_of}
use Rattle.modules.specs.Views.{request_context_of, done_view}
use Rattle.modules.specs.Answers.{cause_of}
use Rattle.modules.specs.Parts.{added, file_context}
use Rattle.modules.proofs.StepLemmas.{stands_as, run_made, joins_ok, joins_refused}
use Rattle.modules.proofs.NameLemmas.{found_stopped, found_joins}
use Rattle.modules.proofs.one_name.load_found.Goals as goal

pub returns-in_err-ran-clause-given : goal.returns-in_err-ran-clause-given
returns-in_err-ran-clause-given g c = λ files listings.
    let p = err_from_is_err_and c.from_residual.result c.from_residual.ensures.1 in
    let a = c.args.name_request in
    let d = done_view c.args.progress.now.done (g.V.Vars.vars c.args.env.now) in
    let xs = map entry_view c.args.progress.now.list.entries.items in
    let m = found_view c.args.found in
    let no : has m.name (names_of xs) ≡ false = ap (λ (n : Text). has n (names_of xs)) (sym c.as_str.ensures.value)
    ∙ (ap (λ (es : List Loaded). has c.as_str.result.now (names_of (map entry_view es)))
    (sym c.entries-list.ensures) ∙ (sym c.is_other_loaded.ensures ∙ c.if-is_other_loaded.false)) in
    let given = rw (c.of-file.ensures.name, c.of-file.ensures.path, c.of-file.ensures.text) at c.in_err-ran.ensures.given in
    rw (p.1, p.2) (stands_as (cause_of c.in_err-ran.field-0.0) ⊥ ⊥ (λ r. RefusedAs file_refused (RunsFile a.settings.limits (file_context a modes.load m.name m.path xs d.env) m.text) (Err r))
    (λ r. LoadsFound (request_context_of a.settings files listings) a.in_switch a.typed.now d xs m (Err r)) (λ q. q)
    (λ r h. found_stopped (request_context_of a.settings files listings) a.in_switch a.typed.now d xs m no r h) given)

pub returns-in_err-join_loaded-clause-given : goal.returns-in_err-join_loaded-clause-given
returns-in_err-join_loaded-clause-given g c = λ files listings.
    let p = err_from_is_err_and c.from_residual-in_err-join_loaded.result c.from_residual-in_err-join_loaded.ensures.1 in
    let a = c.args.name_request in
    let d = done_view c.args.progress.now.done (g.V.Vars.vars c.args.env.now) in
    let xs = map entry_view c.args.progress.now.list.entries.items in
    let m = found_view c.args.found in
    let no : has m.name (names_of xs) ≡ false = ap (λ (n : Text). has n (names_of xs)) (sym c.as_str.ensures.value)
    ∙ (ap (λ (es : List Loaded). has c.as_str.result.now (names_of (map entry_view es)))
    (sym c.entries-list.ensures) ∙ (sym c.is_other_loaded.ensures ∙ c.if-is_other_loaded.false)) in
    let mid = g.V.Vars.vars c.evaluate.new.env in
    let ran = ran_view c.in_ok-ran.ran mid in
    let given = rw (c.of-file.ensures.name, c.of-file.ensures.path, c.of-file.ensures.text) at c.in_ok-ran.ensures.given in
    let made = run_made a.settings.limits (file_context a modes.load m.name m.path xs d.env) m.text ran given in
    let loading = module_of m.name m.path ran in
    rw (p.1, p.2) (stands_as (cause_of c.in_err-join_loaded.field-0.0) ⊥ ⊥ (λ r. Err r ≡ added xs loading mid)
    (λ r. LoadsFound (request_context_of a.settings files listings) a.in_switch a.typed.now d xs m (Err r)) (λ q. q)
    (λ r h. found_joins (request_context_of a.settings files listings) a.in_switch a.typed.now d xs m no ran given
    (Err r) (joins_refused d xs loading ran.messages mid made r h)) c.in_err-join_loaded.ensures.given)

pub returns-clause-given : goal.returns-clause-given
returns-clause-given g c = λ files listings.
    let a = c.args.name_request in
    let d = done_view c.args.progress.now.done (g.V.Vars.vars c.args.env.now) in
    let xs = map entry_view c.args.progress.now.list.entries.items in
    let m = found_view c.args.found in
    let no : has m.name (names_of xs) ≡ false = ap (λ (n : Text). has n (names_of xs)) (sym c.as_str.ensures.value)
    ∙ (ap (λ (es : List Loaded). has c.as_str.result.now (names_of (map entry_view es)))
    (sym c.entries-list.ensures) ∙ (sym c.is_other_loaded.ensures ∙ c.if-is_other_loaded.false)) in
    let mid = g.V.Vars.vars c.evaluate.new.env in
    let last = g.V.Vars.vars c.join_loaded.new.env in
    let ran = ran_view c.in_ok-ran.ran mid in
    let given = rw (c.of-file.ensures.name, c.of-file.ensures.path, c.of-file.ensures.text) at c.in_ok-ran.ensures.given in
    let made = run_made a.settings.limits (file_context a modes.load m.name m.path xs d.env) m.text ran given in
    let loading = module_of m.name m.path ran in
    found_joins (request_context_of a.settings files listings) a.in_switch a.typed.now d xs m no ran given (Ok (done_view c.continue_with.new.self last))
    (ap Ok (c.in_ok-continue_with.ensures (g.V.Vars.vars c.args.env.now) last) ∙ joins_ok d xs loading ran.messages mid made last c.in_ok-join_loaded.ensures.given)

pub join_loaded-requires : goal.join_loaded-requires
join_loaded-requires g c = c.requires.listed ∙ sym c.in_ok-ran.ensures.listed

pub returns-clause-listed : goal.returns-clause-listed
returns-clause-listed g c = c.in_ok-join_loaded.ensures.listed

pub returns-then-is_other_loaded-clause-listed : goal.returns-then-is_other_loaded-clause-listed
returns-then-is_other_loaded-clause-listed g c = c.requires.listed

pub is_other_loaded-requires : goal.is_other_loaded-requires
is_other_loaded-requires g c =
    ap (λ (es : List Loaded). has c.args.name_request.typed.now (names_of (map entry_view es))) c.entries-list.ensures ∙ c.requires.unloaded

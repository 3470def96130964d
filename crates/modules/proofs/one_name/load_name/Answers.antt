use Rattle.std.proofs.Common.{◌≡◌, true, false, List, map, sym, ap, ◌∙◌}
use Rattle.std.proofs.lemmas.Result.{err_from_is_err_and}
use Rattle.envvars.specs.Texts.{has}
use Rattle.envstate.specs.loaded_list.Loaded.{names_of}
use Rattle.envstate.specs.loaded_list.LoadedEntries.{entry_view}
use Rattle.envstate.specs.declared.loaded_list.entry.Loaded.{Loaded}
use Rattle.search.specs.Answers.{found_view}
use Rattle.requests.specs.Steps.{Finds, LoadsFound, LoadsName}
use Rattle.requests.specs.Looked.{SearchLooksAt, LoadLooksAt}
use Rattle.modules.specs.Views.{request_context_of, done_view}
use Rattle.modules.proofs.NameLemmas.{loads_loaded, loads_unfound, loads_found}
use Rattle.modules.proofs.TreeAnswers.{answers_now, refused, then_given}
use Rattle.modules.proofs.one_name.load_name.Goals as goal

pub returns-then-is_loaded-clause-loaded : goal.returns-then-is_loaded-clause-loaded
returns-then-is_loaded-clause-loaded g c =
    let a = c.args.name_request in
    let d = done_view c.args.progress.now.done (g.V.Vars.vars c.args.env.now) in
    let items = c.args.progress.now.list.entries.items in
    let yes : has a.typed.now (names_of (map entry_view items)) ≡ true = ap
    (λ (es : List Loaded). has a.typed.now (names_of (map entry_view es))) (sym c.entries.ensures)
    ∙ (sym c.is_loaded.ensures ∙ c.if-is_loaded.true) in
    answers_now c.args.tree.now (λ (u : Unit {0}). d) tt
    (λ files listings. LoadsName (request_context_of a.settings files listings) a.in_switch a.typed.now d)
    (λ files listings. LoadLooksAt (request_context_of a.settings files listings) a.typed.now d)
    (λ files listings. loads_loaded (request_context_of a.settings files listings) a.in_switch a.typed.now d (map entry_view items) c.requires yes)

pub returns-in_err-found-clause-loaded : goal.returns-in_err-found-clause-loaded
returns-in_err-found-clause-loaded g c =
    let a = c.args.name_request in
    let e = g.V.Vars.vars c.args.env.now in
    let d = done_view c.args.progress.now.done e in
    let items = c.args.progress.now.list.entries.items in
    let no : has a.typed.now (names_of (map entry_view items)) ≡ false = ap
    (λ (es : List Loaded). has a.typed.now (names_of (map entry_view es))) (sym c.entries.ensures)
    ∙ (sym c.is_loaded.ensures ∙ c.if-is_loaded.false) in
    refused found_view c.in_err-found.field-0.0 (λ files listings. Finds (request_context_of a.settings files listings)
    e a.typed.now) (λ files listings. SearchLooksAt (request_context_of a.settings files listings) e a.typed.now)
    (λ (u : Unit {0}). d) c.from_residual.result (λ files listings. LoadsName
    (request_context_of a.settings files listings) a.in_switch a.typed.now d)
    (λ files listings. LoadLooksAt (request_context_of a.settings files listings) a.typed.now d)
    (err_from_is_err_and c.from_residual.result c.from_residual.ensures.1) c.in_err-found.ensures
    (λ files listings r h. loads_unfound (request_context_of a.settings files listings) a.in_switch a.typed.now d (map entry_view items) c.requires no r h)
    (λ files listings at h. record { entries = map entry_view items; read = c.requires; unloaded = no; searched = h })

pub returns-clause-loaded : goal.returns-clause-loaded
returns-clause-loaded g c =
    let a = c.args.name_request in
    let e = g.V.Vars.vars c.args.env.now in
    let d = done_view c.args.progress.now.done e in
    let items = c.args.progress.now.list.entries.items in
    let m = found_view c.in_ok-found.found in
    let no : has a.typed.now (names_of (map entry_view items)) ≡ false = ap
    (λ (es : List Loaded). has a.typed.now (names_of (map entry_view es))) (sym c.entries.ensures)
    ∙ (sym c.is_loaded.ensures ∙ c.if-is_loaded.false) in
    then_given found_view c.in_ok-found.found (λ files listings. Finds (request_context_of a.settings files listings) e
    a.typed.now) (λ files listings. SearchLooksAt (request_context_of a.settings files listings) e a.typed.now)
    (λ (u : Unit {0}). done_view c.load_found.new.progress.done (g.V.Vars.vars c.load_found.new.env)) c.load_found.result
    (λ files listings. LoadsFound (request_context_of a.settings files listings) a.in_switch a.typed.now d (map entry_view items) m)
    (λ files listings. LoadsName (request_context_of a.settings files listings) a.in_switch a.typed.now d) (λ files listings. LoadLooksAt (request_context_of a.settings files listings) a.typed.now d)
    c.in_ok-found.ensures c.load_found.ensures.given
    (λ files listings h o k. loads_found (request_context_of a.settings files listings) a.in_switch a.typed.now d (map entry_view items) c.requires no m h o k)

pub load_found-requires-clause-listed : goal.load_found-requires-clause-listed
load_found-requires-clause-listed g c = c.requires

pub load_found-requires-clause-unloaded : goal.load_found-requires-clause-unloaded
load_found-requires-clause-unloaded g c =
    ap (λ (es : List Loaded). has c.args.name_request.typed.now (names_of (map entry_view es))) (sym c.entries.ensures)
    ∙ (sym c.is_loaded.ensures ∙ c.if-is_loaded.false)

pub returns-clause-listed : goal.returns-clause-listed
returns-clause-listed g c = c.load_found.ensures.listed

pub returns-then-is_loaded-clause-listed : goal.returns-then-is_loaded-clause-listed
returns-then-is_loaded-clause-listed g c = c.requires

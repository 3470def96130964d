use Rattle.std.proofs.Common.{map, Some, None, Ok, Err, refl}
use Rattle.std.proofs.lemmas.Result.{err_from_is_err_and}
use Rattle.std.specs.Option.{option_map}
use Rattle.envstate.specs.loaded_list.LoadedEntries.{entry_view}
use Rattle.search.specs.Answers.{found_view}
use Rattle.requests.specs.Steps.{UnloadsName}
use Rattle.requests.specs.Looked.{UnloadLooksAt}
use Rattle.modules.specs.Views.{request_context_of, done_view}
use Rattle.modules.specs.Parts.{FindsLoaded, LoadedLooksAt, UnloadsFound}
use Rattle.modules.proofs.NameLemmas.{unloads_loaded, unloads_at}
use Rattle.modules.proofs.TreeAnswers.{refused, then_answers, then_given}
use Rattle.modules.proofs.one_name.unload_name.Goals as goal

pub returns-in_err-meant-clause-unloaded : goal.returns-in_err-meant-clause-unloaded
returns-in_err-meant-clause-unloaded g c =
    let a = c.args.name_request in
    let d = done_view c.args.progress.now.done (g.V.Vars.vars c.args.env.now) in
    let xs = map entry_view c.args.progress.now.list.entries.items in
    refused (option_map found_view) c.in_err-meant.field-0.0 (λ files listings. FindsLoaded files a.typed.now xs) (λ files listings. LoadedLooksAt a.typed.now xs)
    (λ (u : Unit {0}). d) c.from_residual.result (λ files listings. UnloadsName
    (request_context_of a.settings files listings) a.in_switch a.typed.now d)
    (λ files listings. UnloadLooksAt a.typed.now d)
    (err_from_is_err_and c.from_residual.result c.from_residual.ensures.1) (rw c.entries.ensures at c.in_err-meant.ensures)
    (λ files listings r h. unloads_loaded (request_context_of a.settings files listings) a.in_switch a.typed.now d xs c.requires (Err r) (Err r) h refl)
    (λ files listings at h. unloads_at (request_context_of a.settings files listings) a.in_switch a.typed.now d xs c.requires at h)

pub returns-in-None-clause-unloaded : goal.returns-in-None-clause-unloaded
returns-in-None-clause-unloaded g c =
    let a = c.args.name_request in
    let d = done_view c.args.progress.now.done (g.V.Vars.vars c.args.env.now) in
    let xs = map entry_view c.args.progress.now.list.entries.items in
    then_answers (option_map found_view) None (λ files listings. FindsLoaded files a.typed.now xs) (λ files listings. LoadedLooksAt a.typed.now xs)
    (λ (u : Unit {0}). d) tt (λ files listings. UnloadsName (request_context_of a.settings files listings) a.in_switch a.typed.now d) (λ files listings. UnloadLooksAt a.typed.now d)
    (rw (c.entries.ensures, c.in-None.is) at c.in_ok-meant.ensures)
    (λ files listings h. unloads_loaded (request_context_of a.settings files listings) a.in_switch a.typed.now d xs c.requires (Ok None) (Ok d) h refl)

pub returns-in-Some-clause-unloaded : goal.returns-in-Some-clause-unloaded
returns-in-Some-clause-unloaded g c =
    let a = c.args.name_request in
    let d = done_view c.args.progress.now.done (g.V.Vars.vars c.args.env.now) in
    let xs = map entry_view c.args.progress.now.list.entries.items in
    let found = c.in-Some.found in
    then_given (option_map found_view) (Some found) (λ files listings. FindsLoaded files a.typed.now xs) (λ files listings. LoadedLooksAt a.typed.now xs)
    (λ (u : Unit {0}). done_view c.unload_found.new.progress.done (g.V.Vars.vars c.unload_found.new.env)) c.unload_found.result
    (λ files listings. UnloadsFound a (found_view found) xs d)
    (λ files listings. UnloadsName (request_context_of a.settings files listings) a.in_switch a.typed.now d) (λ files listings. UnloadLooksAt a.typed.now d)
    (rw (c.entries.ensures, c.in-Some.is) at c.in_ok-meant.ensures) (λ files listings. c.unload_found.ensures.given)
    (λ files listings h o k. unloads_loaded (request_context_of a.settings files listings) a.in_switch a.typed.now d xs c.requires (Ok (Some (found_view found))) o h k)

pub unload_found-requires : goal.unload_found-requires
unload_found-requires g c = c.requires

pub returns-in-None-clause-listed : goal.returns-in-None-clause-listed
returns-in-None-clause-listed g c = c.requires

pub returns-in-Some-clause-listed : goal.returns-in-Some-clause-listed
returns-in-Some-clause-listed g c = c.unload_found.ensures.listed

pub returns-in-None-clause-free : goal.returns-in-None-clause-free
returns-in-None-clause-free g c h = h

pub returns-in-Some-clause-free : goal.returns-in-Some-clause-free
returns-in-Some-clause-free g c = c.unload_found.ensures.free

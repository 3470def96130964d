use Rattle.std.proofs.Common.{map, Ok, Err, refl, ap}
use Rattle.std.proofs.lemmas.Result.{err_from_is_err_and}
use Rattle.envstate.specs.loaded_list.LoadedEntries.{entry_view}
use Rattle.modulefile.specs.Files.{RunsFile}
use Rattle.search.specs.Answers.{found_view}
use Rattle.modulefile_run.specs.Running.{ran_view}
use Rattle.modulefile.specs.Effects as modes
use Rattle.requests.specs.Reasons.{file_refused}
use Rattle.requests.specs.Refusals.{RefusedAs}
use Rattle.modules.specs.Answers.{cause_of}
use Rattle.modules.specs.Parts.{JudgesFound, file_context}
use Rattle.modules.proofs.StepLemmas.{stands_as}
use Rattle.modules.proofs.verdicts.judge_found.Goals as goal

pub returns-in_err-ran : goal.returns-in_err-ran
returns-in_err-ran g c =
    let p = err_from_is_err_and c.from_residual-in_err-ran.result c.from_residual-in_err-ran.ensures.1 in
    let a = c.args.name_request in
    let e = g.V.Vars.vars c.args.env.now in
    let m = found_view c.args.found.now in
    let xs = map entry_view c.args.entries.items in
    let given = rw (c.of-file.ensures.name, c.of-file.ensures.path, c.of-file.ensures.text, c.in_ok-list.ensures) at c.in_err-ran.ensures.given in
    rw (p.1, p.2) (stands_as (cause_of c.in_err-ran.field-0.0) ⊥ ⊥ (λ r. RefusedAs file_refused (RunsFile a.settings.limits (file_context a modes.load m.name m.path xs e) m.text) (Err r))
    (λ r. JudgesFound a m xs e (Err r)) (λ q. q) (λ r h. (Err r, h, refl)) given)

pub returns : goal.returns
returns g c =
    let last = g.V.Vars.vars c.evaluate.new.env in
    let given = rw (c.of-file.ensures.name, c.of-file.ensures.path, c.of-file.ensures.text, c.in_ok-list.ensures) at c.in_ok-ran.ensures.given in
    (Ok (ran_view c.in_ok-ran.ran last), given, ap Ok (c.verdict_on.ensures last))

use Rattle.std.proofs.Common.{◌≡◌, false, map, Ok, Err, refl}
use Rattle.std.proofs.lemmas.Result.{err_from_is_err_and}
use Rattle.envstate.specs.loaded_list.LoadedEntries.{entry_view}
use Rattle.shelltext.specs.declared.shell.Shell.TheVariants.{Sh}
use Rattle.search.specs.Answers.{found_view}
use Rattle.requests.specs.Looked.{SearchLooksAt}
use Rattle.requests.specs.Steps.{Finds, entries_of}
use Rattle.requests.specs.Verdicts.{HasVerdict}
use Rattle.modules.specs.Parts.{JudgesFound}
use Rattle.modules.specs.Verdicts.{verdict_view, in_sh}
use Rattle.modules.proofs.TreeAnswers.{refused_now, refused, then_given}
use Rattle.modules.proofs.verdicts.give_verdict.Goals as goal

pub returns-in_err-entries : goal.returns-in_err-entries
returns-in_err-entries g c =
    let e = g.V.Vars.vars c.args.env.now in
    refused_now c.args.tree.now verdict_view c.from_residual.result c.in_err-entries.field-0.0 (λ r. Err r ≡ entries_of e)
    (λ files listings. HasVerdict (in_sh c.args.limits files listings) e c.args.typed.now) (λ files listings. SearchLooksAt (in_sh c.args.limits files listings) e c.args.typed.now)
    (err_from_is_err_and c.from_residual.result c.from_residual.ensures.1) c.in_err-entries.ensures.given
    (λ files listings r h. (Err r, h, refl))

pub returns-in_err-found : goal.returns-in_err-found
returns-in_err-found g c =
    let e = g.V.Vars.vars c.args.env.now in
    let xs = map entry_view c.in_ok-entries.entries.items in
    refused found_view c.in_err-found.field-0.0 (λ files listings. Finds (in_sh c.args.limits files listings) e
    c.args.typed.now) (λ files listings. SearchLooksAt (in_sh c.args.limits files listings) e c.args.typed.now)
    verdict_view c.from_residual-in_err-found.result (λ files listings. HasVerdict (in_sh c.args.limits files listings)
    e c.args.typed.now) (λ files listings. SearchLooksAt (in_sh c.args.limits files listings) e c.args.typed.now)
    (err_from_is_err_and c.from_residual-in_err-found.result c.from_residual-in_err-found.ensures.1) c.in_err-found.ensures
    (λ files listings r h. (Ok xs, c.in_ok-entries.ensures.given, (Err r, h, refl)))
    (λ files listings at h. h)

pub returns : goal.returns
returns g c =
    let e = g.V.Vars.vars c.args.env.now in
    let m = found_view c.in_ok-found.found in
    let xs = map entry_view c.in_ok-entries.entries.items in
    then_given found_view c.in_ok-found.found (λ files listings. Finds (in_sh c.args.limits files listings) e
    c.args.typed.now) (λ files listings. SearchLooksAt (in_sh c.args.limits files listings) e c.args.typed.now)
    verdict_view c.judge_found.result
    (λ files listings. JudgesFound (record { settings = record { limits = c.args.limits; shell = Sh }; in_switch = false; typed = c.args.typed }) m xs e)
    (λ files listings. HasVerdict (in_sh c.args.limits files listings) e c.args.typed.now) (λ files listings. SearchLooksAt (in_sh c.args.limits files listings) e c.args.typed.now)
    c.in_ok-found.ensures (λ files listings. c.judge_found.ensures)
    (λ files listings h o k. (Ok xs, c.in_ok-entries.ensures.given, (Ok m, h, k)))

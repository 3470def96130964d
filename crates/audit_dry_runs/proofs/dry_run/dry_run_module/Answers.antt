use Rattle.std.proofs.Common.{sym, ◌∙◌, map, string_bytes, String}
use Rattle.std.specs.declared.alloc.Global.{Global}
use Rattle.envvars.specs.Texts.{texts_in}
use Rattle.envstate.specs.loaded_list.LoadedEntries.{entry_view}
use Rattle.modules.specs.Verdicts.{in_sh}
use Rattle.modules.specs.Views.{done_view}
use Rattle.audit_dry_runs.proofs.LoadLemmas.{nothing_joined, one_joined}
use Rattle.audit_dry_runs.proofs.DryRunLemmas.{failed_over, is_another, load_accepted, loaded_over, tried_over}
use Rattle.audit_dry_runs.proofs.dry_run.dry_run_module.Goals as goal

pub returns-in-Err-clause-tried : goal.returns-in-Err-clause-tried
returns-in-Err-clause-tried g c = λ files listings agreed.
    rw (c.in_ok-after.ensures.ok, c.in_ok-action.ensures, c.in-Err.is) at (c.in_ok-done.ensures.answered files listings agreed)

pub returns-in_default-clause-tried : goal.returns-in_default-clause-tried
returns-in_default-clause-tried g c = λ files listings agreed.
    let step = load_accepted (in_sh c.args.limits) _ _ _ _ _ _ _ _ c.in_ok-after.ensures.ok c.in_ok-action.ensures c.in-Ok.is
    c.in_ok-done.ensures.answered files listings agreed in
    let d = done_view c.in-Ok.done c.do_in_sh.new.env in (
      d,
      step,
      nothing_joined c.outcomes.ensures.reach c.loaded_edits.ensures.add (in_sh c.args.limits files listings)
          c.args.env.now c.args.name.now d step (texts_in c.in-Ok.done.loaded) c.in-Ok.done.named
          (rw c.in_default.is at c.in_ok-entry.ensures),
    )

pub returns-then-not-is_module-clause-tried : goal.returns-then-not-is_module-clause-tried
returns-then-not-is_module-clause-tried g c = λ files listings agreed.
    let step = load_accepted (in_sh c.args.limits) _ _ _ _ _ _ _ _ c.in_ok-after.ensures.ok c.in_ok-action.ensures c.in-Ok.is
    c.in_ok-done.ensures.answered files listings agreed in
    let d = done_view c.in-Ok.done c.do_in_sh.new.env in
    let loads = one_joined c.outcomes.ensures.reach c.loaded_edits.ensures.add (in_sh c.args.limits files listings)
    c.args.env.now c.args.name.now d step (texts_in c.in-Ok.done.loaded) (entry_view c.in-Some.entry) c.in-Ok.done.named
    (rw c.in-Some.is at c.in_ok-entry.ensures) in
    (d, loads, is_another _ _ _ _ (sym c.if-not-is_module.true ∙ c.is_module.ensures))

pub returns-clause-tried : goal.returns-clause-tried
returns-clause-tried g c =
    let step = load_accepted (in_sh c.args.limits) _ _ _ _ _ _ _ _ c.in_ok-after.ensures.ok c.in_ok-action.ensures c.in-Ok.is
    c.in_ok-done.ensures.answered in
    let loaded = loaded_over c.outcomes.ensures.reach c.loaded_edits.ensures.add (in_sh c.args.limits) _ c.args.env.now _
    c.args.name.now c.args.path.now c.in-Ok.done c.in-Some.entry c.in-Ok.done.named
    (rw c.in-Some.is at c.in_ok-entry.ensures) (sym c.if-not-is_module.false ∙ c.is_module.ensures) step in
    tried_over (in_sh c.args.limits) _ _ c.try_unload.ensures.reads.narrows c.args.env.now _ c.args.name.now
    c.args.path.now loaded (map (λ (s : String Global). string_bytes s) c.args.not_utf8.now) c.try_unload.result c.try_unload.ensures.ended

pub returns-clause-failed : goal.returns-clause-failed
returns-clause-failed g c =
    let step = load_accepted (in_sh c.args.limits) _ _ _ _ _ _ _ _ c.in_ok-after.ensures.ok c.in_ok-action.ensures c.in-Ok.is
    c.in_ok-done.ensures.answered in
    let loaded = loaded_over c.outcomes.ensures.reach c.loaded_edits.ensures.add (in_sh c.args.limits) _ c.args.env.now _
    c.args.name.now c.args.path.now c.in-Ok.done c.in-Some.entry c.in-Ok.done.named
    (rw c.in-Some.is at c.in_ok-entry.ensures) (sym c.if-not-is_module.false ∙ c.is_module.ensures) step in
    failed_over (in_sh c.args.limits) _ _ c.try_unload.ensures.reads.narrows c.args.env.now _ c.args.name.now
    c.args.path.now loaded _ _ _ _ (rw c.in-Ok.is at c.in_ok-done.ensures.failed) c.try_unload.ensures.failed

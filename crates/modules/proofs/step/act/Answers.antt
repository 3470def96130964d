use Rattle.std.proofs.Common.{IfErr, map, String, string_bytes, sym, subst}
use Rattle.std.specs.declared.alloc.Global.{Global}
use Rattle.requests.specs.declared.action.Action.{Action}
use Rattle.requests.specs.declared.action.Action.TheVariants as actions
use Rattle.lookup.specs.DefaultFileResults.{HasResult}
use Rattle.search.specs.Looked.{ListingLooksAt}
use Rattle.requests.specs.RequestViews.{action_view}
use Rattle.requests.specs.Looked.{RequestLooksAt}
use Rattle.requests.specs.Steps as steps
use Rattle.requests.specs.Steps.{ListsLoaded, ListsAvailable, RequestStep, modulepath}
use Rattle.modules.specs.declared.done.RequestResults.{RequestResults}
use Rattle.modules.specs.Parts.{TreeAnswer}
use Rattle.modules.specs.Messages.{MemoryNumberAmong, memory_numbers}
use Rattle.modules.specs.Views.{request_context_of, done_view}
use Rattle.modules.proofs.MemoryNumberLemmas.{wants_any}
use Rattle.modules.proofs.TreeAnswers.{answers_of, given_now}
use Rattle.modules.proofs.step.act.Goals as goal

pub returns-in-Load-clause-done : goal.returns-in-Load-clause-done
returns-in-Load-clause-done g c =
    answers_of c.args.action.now (actions.Load c.in-Load.names) c.in-Load.is (λ (x : RequestResults). done_view x (g.V.Vars.vars c.change_names.new.env)) c.change_names.result
    (λ (action : Action) files listings. RequestStep (request_context_of c.args.settings files listings) (g.V.Vars.vars c.args.env.now) (action_view action))
    (λ (action : Action) files listings. RequestLooksAt (request_context_of c.args.settings files listings) (g.V.Vars.vars c.args.env.now) (action_view action))
    (rw c.deref.ensures.value at c.change_names.ensures.done)

pub returns-in-Load-clause-out_of_memory : goal.returns-in-Load-clause-out_of_memory
returns-in-Load-clause-out_of_memory g c =
    subst (λ (action : Action). IfErr c.change_names.result (MemoryNumberAmong (memory_numbers (action_view action)))) (sym c.in-Load.is) (wants_any c.change_names.result)

pub returns-in-Unload-clause-done : goal.returns-in-Unload-clause-done
returns-in-Unload-clause-done g c =
    answers_of c.args.action.now (actions.Unload c.in-Unload.names) c.in-Unload.is
    (λ (x : RequestResults). done_view x (g.V.Vars.vars c.change_names-in-Unload.new.env))
    c.change_names-in-Unload.result
    (λ (action : Action) files listings. RequestStep (request_context_of c.args.settings files listings) (g.V.Vars.vars c.args.env.now) (action_view action))
    (λ (action : Action) files listings. RequestLooksAt (request_context_of c.args.settings files listings) (g.V.Vars.vars c.args.env.now) (action_view action))
    (rw c.deref-in-Unload.ensures.value at c.change_names-in-Unload.ensures.done)

pub returns-in-Unload-clause-out_of_memory : goal.returns-in-Unload-clause-out_of_memory
returns-in-Unload-clause-out_of_memory g c =
    subst (λ (action : Action). IfErr c.change_names-in-Unload.result (MemoryNumberAmong (memory_numbers (action_view action)))) (sym c.in-Unload.is) (wants_any c.change_names-in-Unload.result)

pub returns-in-Switch-clause-done : goal.returns-in-Switch-clause-done
returns-in-Switch-clause-done g c =
    answers_of c.args.action.now (actions.Switch c.in-Switch.old c.in-Switch.new) c.in-Switch.is (λ (x : RequestResults). done_view x (g.V.Vars.vars c.switch.new.env)) c.switch.result
    (λ (action : Action) files listings. RequestStep (request_context_of c.args.settings files listings) (g.V.Vars.vars c.args.env.now) (action_view action))
    (λ (action : Action) files listings. RequestLooksAt (request_context_of c.args.settings files listings) (g.V.Vars.vars c.args.env.now) (action_view action))
    (rw (c.as_deref.ensures.value, c.as_str.ensures.value) at c.switch.ensures.done)

pub returns-in-Switch-clause-out_of_memory : goal.returns-in-Switch-clause-out_of_memory
returns-in-Switch-clause-out_of_memory g c =
    subst (λ (action : Action). IfErr c.switch.result (MemoryNumberAmong (memory_numbers (action_view action)))) (sym c.in-Switch.is) (wants_any c.switch.result)

pub returns-in-Purge-clause-done : goal.returns-in-Purge-clause-done
returns-in-Purge-clause-done g c =
    answers_of c.args.action.now actions.Purge c.in-Purge.is (λ (x : RequestResults). done_view x (g.V.Vars.vars c.purge.new.env)) c.purge.result
    (λ (action : Action) files listings. RequestStep (request_context_of c.args.settings files listings) (g.V.Vars.vars c.args.env.now) (action_view action))
    (λ (action : Action) files listings. RequestLooksAt (request_context_of c.args.settings files listings) (g.V.Vars.vars c.args.env.now) (action_view action))
    c.purge.ensures.done

pub returns-in-Purge-clause-out_of_memory : goal.returns-in-Purge-clause-out_of_memory
returns-in-Purge-clause-out_of_memory g c =
    subst (λ (action : Action). IfErr c.purge.result (MemoryNumberAmong (memory_numbers (action_view action)))) (sym c.in-Purge.is) (wants_any c.purge.result)

pub returns-in-List-clause-done : goal.returns-in-List-clause-done
returns-in-List-clause-done g c =
    let e = g.V.Vars.vars c.args.env.now in
    answers_of c.args.action.now actions.List c.in-List.is (λ (x : RequestResults). done_view x e) c.list.result
    (λ (action : Action) files listings. RequestStep (request_context_of c.args.settings files listings) (g.V.Vars.vars c.args.env.now) (action_view action))
    (λ (action : Action) files listings. RequestLooksAt (request_context_of c.args.settings files listings) (g.V.Vars.vars c.args.env.now) (action_view action))
    (given_now c.args.tree.now (λ (x : RequestResults). done_view x e) c.list.result (λ files listings. ListsLoaded e)
    (λ files listings. RequestStep (request_context_of c.args.settings files listings) e (action_view actions.List))
    (λ files listings. RequestLooksAt (request_context_of c.args.settings files listings) e (action_view actions.List)) (λ files listings. c.list.ensures.given) (λ files listings o h. h))

pub returns-in-List-clause-out_of_memory : goal.returns-in-List-clause-out_of_memory
returns-in-List-clause-out_of_memory g c =
    subst (λ (action : Action). IfErr c.list.result (MemoryNumberAmong (memory_numbers (action_view action)))) (sym c.in-List.is) c.list.ensures.out_of_memory

pub returns-in-Avail-clause-done : goal.returns-in-Avail-clause-done
returns-in-Avail-clause-done g c =
    let e = g.V.Vars.vars c.args.env.now in
    let view : RequestResults → steps.Done = λ x. done_view x e in
    let answer : TreeAnswer g.T.Tree.agrees g.T.Tree.failures g.T.Tree.failed c.args.tree.now c.avail.new.tree view c.avail.result
    (λ files listings. ListsAvailable (request_context_of c.args.settings files listings) e (map (λ (s : String Global). string_bytes s) c.deref-in-Avail.result.now))
    (λ files listings. ListingLooksAt (HasResult c.args.settings.limits) files listings (map (λ (s : String Global). string_bytes s) c.deref-in-Avail.result.now) (modulepath e))
    = record { reads = c.avail.ensures.reads; over_tree = c.avail.ensures.over_tree; failed_at = c.avail.ensures.failed } in
    answers_of c.args.action.now (actions.Avail c.in-Avail.texts) c.in-Avail.is view c.avail.result
    (λ (action : Action) files listings. RequestStep (request_context_of c.args.settings files listings) e (action_view action))
    (λ (action : Action) files listings. RequestLooksAt (request_context_of c.args.settings files listings) e (action_view action))
    (rw c.deref-in-Avail.ensures.value at answer)

pub returns-in-Avail-clause-out_of_memory : goal.returns-in-Avail-clause-out_of_memory
returns-in-Avail-clause-out_of_memory g c =
    subst (λ (action : Action). IfErr c.avail.result (MemoryNumberAmong (memory_numbers (action_view action)))) (sym c.in-Avail.is) c.avail.ensures.out_of_memory

pub returns-in-Show-clause-done : goal.returns-in-Show-clause-done
returns-in-Show-clause-done g c =
    answers_of c.args.action.now (actions.Show c.in-Show.names) c.in-Show.is (λ (x : RequestResults). done_view x (g.V.Vars.vars c.report_names.new.env)) c.report_names.result
    (λ (action : Action) files listings. RequestStep (request_context_of c.args.settings files listings) (g.V.Vars.vars c.args.env.now) (action_view action))
    (λ (action : Action) files listings. RequestLooksAt (request_context_of c.args.settings files listings) (g.V.Vars.vars c.args.env.now) (action_view action))
    (rw c.deref-in-Show.ensures.value at c.report_names.ensures.done)

pub returns-in-Show-clause-out_of_memory : goal.returns-in-Show-clause-out_of_memory
returns-in-Show-clause-out_of_memory g c =
    subst (λ (action : Action). IfErr c.report_names.result (MemoryNumberAmong (memory_numbers (action_view action)))) (sym c.in-Show.is) (wants_any c.report_names.result)

pub returns-in-Whatis-clause-done : goal.returns-in-Whatis-clause-done
returns-in-Whatis-clause-done g c =
    answers_of c.args.action.now (actions.Whatis c.in-Whatis.names) c.in-Whatis.is
    (λ (x : RequestResults). done_view x (g.V.Vars.vars c.report_names-in-Whatis.new.env))
    c.report_names-in-Whatis.result
    (λ (action : Action) files listings. RequestStep (request_context_of c.args.settings files listings) (g.V.Vars.vars c.args.env.now) (action_view action))
    (λ (action : Action) files listings. RequestLooksAt (request_context_of c.args.settings files listings) (g.V.Vars.vars c.args.env.now) (action_view action))
    (rw c.deref-in-Whatis.ensures.value at c.report_names-in-Whatis.ensures.done)

pub returns-in-Whatis-clause-out_of_memory : goal.returns-in-Whatis-clause-out_of_memory
returns-in-Whatis-clause-out_of_memory g c =
    subst (λ (action : Action). IfErr c.report_names-in-Whatis.result (MemoryNumberAmong (memory_numbers (action_view action)))) (sym c.in-Whatis.is) (wants_any c.report_names-in-Whatis.result)

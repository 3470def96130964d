use Rattle.std.proofs.Common.{List, String, Option, map, string_bytes, subst}
use Rattle.std.specs.Prelude.{IfNone}
use Rattle.std.specs.declared.alloc.Global.{Global}
use Rattle.std.specs.declared.vec.Vec.{Vec}
use Rattle.envvars.specs.Texts.{Text}
use Rattle.requests.specs.declared.action.Action.TheVariants as actions
use Rattle.module_explain.specs.Advised.{UnloadComes}
use Rattle.module_explain.proofs.AutomaticLemmas.{IsUndone, accepted_unload, done_of, sound_automated, undone}
use Rattle.module_explain.proofs.automatic.unload_with_needing.Goals as goal

pub returns-in_ok-automated-in-Some-clause-advised : goal.returns-in_ok-automated-in-Some-clause-advised
returns-in_ok-automated-in-Some-clause-advised g c =
    let agrees = g.T.Tree.agrees c.unload_automatically-answer.new.tree in
    sound_automated agrees c.args.refused.limits c.args.refused.request.now.shell c.args.refused.env.now _ (actions.Unload c.in-Some.names) c.in_ok-automated-in-Some.field-0
    c.in_ok-automated-in-Some.ensures
    (accepted_unload agrees c.args.refused.limits c.args.refused.request.now.shell c.args.refused.env.now c.unload_automatically-answer.result c.in-Some.names
    (done_of c.unload_automatically-answer.result c.in_ok-names.field-0 c.in-Some.names c.in_ok-names.ensures.done c.in-Some.is) c.unload_automatically-answer.ensures.unloaded)

pub returns-in-None-clause-fits : goal.returns-in-None-clause-fits
returns-in-None-clause-fits g c =
    let agrees = g.T.Tree.agrees c.unload_automatically-answer.new.tree in
    let limits = c.args.refused.limits in
    let shell = c.args.refused.request.now.shell in
    let e = c.args.refused.env.now in
    let asked : List Text = map (λ (s : String Global). string_bytes s) c.args.asked.now in
    undone agrees agrees _ shell e (UnloadComes agrees limits shell e asked) c.unload_automatically-answer.result (λ files listings a. a)
    (subst (λ (o : Option (Vec (String Global) Global)). IfNone o (IsUndone c.unload_automatically-answer.result)) c.in-None.is c.in_ok-names.ensures.undone)
    c.unload_automatically-answer.ensures.refused

use Rattle.std.proofs.Common.{map, Option, String, string_bytes, subst}
use Rattle.std.specs.declared.alloc.Global.{Global}
use Rattle.module_explain.specs.Views.{IsSwitchOrNone}
use Rattle.module_explain.specs.declared.advice.Advice.{Advice}
use Rattle.module_explain.proofs.AdviceLemmas.{no_switch_later, unloads}
use Rattle.module_explain.proofs.advice.instead.Goals as goal

pub returns-clause-fits : goal.returns-clause-fits
returns-clause-fits g c =
    let before = g.T.Tree.agrees c.switch_to_one.new.tree in
    let now = g.T.Tree.agrees c.if_accepted.new.tree in
    let limits = c.args.refused.limits in
    let shell = c.args.refused.request.now.shell in
    let e = c.args.refused.env.now in
    let names = map (λ (s : String Global). string_bytes s) c.args.names.now in
    unloads now limits shell e c.args.other.now names c.in_ok-unload.unload c.in_ok-unload.ensures
    (no_switch_later before now limits shell e c.if_accepted.ensures.reads.narrows c.args.other.now names
    (subst (λ (o : Option Advice). IsSwitchOrNone before limits shell e c.args.other.now names o) c.in_default.is c.in_ok-advice.ensures.switches))
    c.if_accepted.result c.if_accepted.ensures.tried c.if_accepted.ensures.none

use Rattle.std.proofs.Common.{map, List, String, string_bytes, sym, subst, IfOk}
use Rattle.std.specs.declared.alloc.Global.{Global}
use Rattle.envvars.specs.Texts.{texts_in}
use Rattle.requests.specs.RequestViews.{action_view}
use Rattle.requests.specs.declared.action.Action.{Action}
use Rattle.module_explain.specs.Advised.{ForNames, ForNeed, names_to_load}
use Rattle.module_explain.proofs.automatic.for_need.Goals as goal

pub returns-in-Load-clause-fits : goal.returns-in-Load-clause-fits
returns-in-Load-clause-fits g c =
    let For = ForNeed (g.T.Tree.agrees c.load_with_needed.new.tree) c.args.refused.limits c.args.refused.request.now.shell c.args.refused.env.now (texts_in c.args.missing.now.names) in
    subst (λ (a : Action). IfOk c.load_with_needed.result (ForNames For (names_to_load (action_view a)))) (sym c.in-Load.is)
    (subst (λ (l : List (String Global)). IfOk c.load_with_needed.result (For (map (λ (s : String Global). string_bytes s) l))) c.as_slice.ensures.value c.load_with_needed.ensures.fits)

use Rattle.std.proofs.Common.{◌<◌, map, string_bytes, String}
use Rattle.std.specs.declared.alloc.Global.{Global}
use Rattle.requests.specs.RequestViews.{action_view}
use Rattle.module_explain.proofs.ExplainedLemmas.{all_transient, explained, explained_advised, explained_whys, kept}
use Rattle.module_explain.proofs.explanation.explain.Goals as goal

pub returns-clause-why : goal.returns-clause-why
returns-clause-why g c =
    kept c.of_request.result c.unless_refused.result _ c.unless_refused.ensures.same
    (explained_whys (g.T.Tree.agrees c.of_request.new.tree) c.args.limits c.in-Ok.wanted.shell c.args.shell c.args.env.now (map (λ (s : String Global). string_bytes s) c.args.words.now)
    (action_view c.in-Ok.wanted.action) c.in-Ok.ensures.shell c.in-Ok.ensures.action c.of_request.result c.of_request.ensures.why)

pub returns-clause-advised : goal.returns-clause-advised
returns-clause-advised g c =
    kept c.of_request.result c.unless_refused.result _ c.unless_refused.ensures.same
    (explained_advised (g.T.Tree.agrees c.of_request.new.tree) c.args.limits c.in-Ok.wanted.shell c.args.shell c.args.env.now (map (λ (s : String Global). string_bytes s) c.args.words.now)
    (action_view c.in-Ok.wanted.action) c.in-Ok.ensures.shell c.in-Ok.ensures.action c.of_request.result c.of_request.ensures.advised)

pub returns-clause-said : goal.returns-clause-said
returns-clause-said g c =
    kept c.of_request.result c.unless_refused.result _ c.unless_refused.ensures.same
    (explained (g.T.Tree.agrees c.of_request.new.tree) c.args.limits c.in-Ok.wanted.shell c.args.shell c.args.env.now (map (λ (s : String Global). string_bytes s) c.args.words.now)
    (action_view c.in-Ok.wanted.action) c.in-Ok.ensures.shell c.in-Ok.ensures.action c.of_request.result c.of_request.ensures.said)

pub returns-clause-refused : goal.returns-clause-refused
returns-clause-refused g c =
    all_transient (g.T.Tree.failures c.args.tree.now < g.T.Tree.failures c.of_request.new.tree) (map (λ (s : String Global). string_bytes s) c.args.words.now) c.of_request.result c.unless_refused.result
    c.unless_refused.ensures.given_up c.unless_refused.ensures.kept c.of_request.ensures.gave_up

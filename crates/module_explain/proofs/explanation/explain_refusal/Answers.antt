use Rattle.requests.specs.Requests.{list}
use Rattle.module_explain.proofs.ExplainedLemmas.{caused}
use Rattle.module_explain.proofs.explanation.explain_refusal.Goals as goal

pub returns-clause-said : goal.returns-clause-said
returns-clause-said g c =
    caused (g.T.Tree.agrees c.of_refusal.new.tree) c.args.limits c.args.shell c.args.env.now list c.args.refusal.now c.of_refusal.result c.of_refusal.ensures.file c.of_refusal.ensures.fits

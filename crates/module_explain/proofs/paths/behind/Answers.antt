use Rattle.module_explain.proofs.PathLemmas.{stripped}
use Rattle.module_explain.proofs.paths.behind.Goals as goal

pub returns : goal.returns
returns c = stripped c.args.front.now c.args.text.now _ c.strip_prefix.ensures.cases

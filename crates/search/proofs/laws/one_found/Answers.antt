use Rattle.search.proofs.OneFound.{one_module}
use Rattle.search.proofs.laws.one_found.Goals as goal

pub returns : goal.returns
returns g c = λ files listings modulepath name. one_module (g.D.DefaultFiles.results c.args.default_files.now) (g.met.D.DefaultFiles.one c.args.default_files.now) files listings modulepath name

use Rattle.search.proofs.OneListing.{one_listed}
use Rattle.search.proofs.laws.one_listed.Goals as goal

pub returns : goal.returns
returns g c = λ files listings texts modulepath ls ks h k. one_listed (g.D.DefaultFiles.results c.args.default_files.now) files listings texts modulepath ls ks h k

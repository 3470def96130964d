use Rattle.search.proofs.SelectedListing.{selected_listed}
use Rattle.search.proofs.laws.selected_of_all.Goals as goal

pub returns : goal.returns
returns g c = λ files listings texts modulepath ls h. selected_listed (g.D.DefaultFiles.results c.args.default_files.now) files listings texts modulepath ls h

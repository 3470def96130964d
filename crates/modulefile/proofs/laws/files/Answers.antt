use Rattle.modulefile.proofs.OneFile.{one_run}
use Rattle.modulefile.proofs.Showing.{showing_leaves}
use Rattle.modulefile.proofs.WholeFiles.{some_run, records_make, records_allowed}
use Rattle.modulefile.proofs.laws.files.Goals as goal

pub returns-clause-one : goal.returns-clause-one
returns-clause-one c = one_run

pub returns-clause-some : goal.returns-clause-some
returns-clause-some c = some_run c.some_outcome.ensures

pub returns-clause-have_effects : goal.returns-clause-have_effects
returns-clause-have_effects c = records_make

pub returns-clause-allowed : goal.returns-clause-allowed
returns-clause-allowed c = records_allowed

pub returns-clause-showing : goal.returns-clause-showing
returns-clause-showing c = showing_leaves

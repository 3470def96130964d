use Rattle.tcltext.proofs.Longest.{number_in, no_number_in}
use Rattle.tcltext.proofs.laws.number_in_expression.Goals as goal

pub returns-clause-found : goal.returns-clause-found
returns-clause-found c = number_in

pub returns-clause-none : goal.returns-clause-none
returns-clause-none c = no_number_in

use Rattle.tcltext.proofs.list.ReadLemmas.{one_list}
use Rattle.tcltext.proofs.list.laws.one_list.Goals as goal

pub returns : goal.returns
returns c = one_list

use Rattle.tcltext.proofs.list.FaultCuts.{no_further, no_more}
use Rattle.tcltext.proofs.list.laws.no_list_prefix.Goals as goal

pub returns-clause-joined : goal.returns-clause-joined
returns-clause-joined c = no_further

pub returns-clause-bad : goal.returns-clause-bad
returns-clause-bad c = no_more

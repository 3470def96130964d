use Rattle.filetree.proofs.Utf8Tests.{is_text-no}
use Rattle.filetree.proofs.names.Names.of_bytes.Goals as goal

pub returns-in-Err-clause-fault : goal.returns-in-Err-clause-fault
returns-in-Err-clause-fault c = λ _. is_text-no c.args.bytes.now c.in-Err.ensures.cases.0

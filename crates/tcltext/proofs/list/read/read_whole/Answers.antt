use Rattle.tcltext.proofs.list.ListAnswers.{within}
use Rattle.tcltext.proofs.list.read.read_whole.Goals as goal

pub with_offset-requires : goal.with_offset-requires
with_offset-requires c = within c.args.text.now c.in-Err-Fault.fault (rw c.in-Err-Fault.field-0-is at c.in-Err-Fault.ensures)

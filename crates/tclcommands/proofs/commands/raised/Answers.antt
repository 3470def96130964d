use Rattle.tclrules.proofs.Leading.{starve}
use Rattle.tclcommands.proofs.commands.raised.Goals as goal

pub returns-in-Err : goal.returns-in-Err
returns-in-Err c = λ most r s x. rw c.from.ensures starve

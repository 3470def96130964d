use Rattle.std.proofs.Common.{codes}
use Rattle.tclcommands.proofs.Stopping.{fault_stops}
use Rattle.tclvalue.specs.operators.Faults.{error}
use Rattle.tclrules.specs.Messages.{outside_loop}
use Rattle.tclcommands.proofs.completion.after_call.Goals as goal

pub returns-in-Err-Broken : goal.returns-in-Err-Broken
returns-in-Err-Broken c = λ most r b caller k s x. rw (c.in-Err-Broken.is, c.in-Err-Broken.field-0-is, c.from.ensures) (fault_stops _ (error (outside_loop (codes "break"))) _ c.outside_loop.ensures)

pub returns-in-Err-Continued : goal.returns-in-Err-Continued
returns-in-Err-Continued c = λ most r b caller k s x. rw
    (c.in-Err-Continued.is, c.in-Err-Continued.field-0-is, c.from-in-Err-Continued.ensures)
    (fault_stops _ (error (outside_loop (codes "continue"))) _ c.outside_loop-in-Err-Continued.ensures)

use Rattle.tclrules.proofs.Leading.{continue_with, want, hear_on}
use Rattle.tclforms.proofs.substitution.Leading.{reason_stops}
use Rattle.tclcommands.proofs.host_commands.ask_host.Goals as goal

pub returns-in-Done : goal.returns-in-Done
returns-in-Done g c =
    let h = c.in-Done.ensures in
    let t = rw h.answer.2.0 at h.answer.2.1 in
    λ most used scripts r k. rw t (hear_on h.answer.2.0 h.same)

pub returns-in-Unknown : goal.returns-in-Unknown
returns-in-Unknown g c =
    let h = c.in-Unknown.ensures in
    let t = rw h.answer.1.0 at h.answer.1.1 in
    λ most used scripts r k. rw (t, c.from.ensures) (continue_with (hear_on h.answer.1.0 h.same) (reason_stops _ _ _ c.no_command.ensures))

pub returns-in-LeftOut : goal.returns-in-LeftOut
returns-in-LeftOut g c =
    let h = c.in-LeftOut.ensures in
    let t = rw h.answer.1.0 at h.answer.1.1 in
    λ most used scripts r k. rw t (hear_on h.answer.1.0 h.same)

pub returns-in-Refused : goal.returns-in-Refused
returns-in-Refused g c =
    let h = c.in-Refused.ensures in
    let t = rw h.answer.2.0 at h.answer.2.1 in
    λ most used scripts r k. rw t (hear_on h.answer.2.0 h.same)

pub returns-in-OutOfMemory : goal.returns-in-OutOfMemory
returns-in-OutOfMemory g c =
    let h = c.in-OutOfMemory.ensures in
    λ most used scripts r k. want h.answer.0 h.answer.1 h.same

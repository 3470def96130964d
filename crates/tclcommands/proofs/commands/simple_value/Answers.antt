use Rattle.tclrules.specs.Simulates.{point}
use Rattle.tclrules.proofs.Leading.{stay}
use Rattle.tclforms.specs.substitution.Machine.{bounds}
use Rattle.tclcommands.proofs.commands.simple_value.Goals as goal

pub returns-in-Get : goal.returns-in-Get
returns-in-Get g c = λ most remaining used scripts r k. rw c.in-Get.is (c.get.ensures most used scripts (bounds c.args.limits.value_bytes remaining) r k)

pub returns-in-Set : goal.returns-in-Set
returns-in-Set g c = λ most remaining used scripts r k. rw c.in-Set.is (c.set.ensures most remaining r k (point (g.H.Host.oracle c.args.host.now) (g.H.Host.trace c.args.host.now) used scripts))

pub returns-in-Append : goal.returns-in-Append
returns-in-Append g c = λ most remaining used scripts r k. rw c.in-Append.is (c.append.ensures most remaining r k (point (g.H.Host.oracle c.args.host.now) (g.H.Host.trace c.args.host.now) used scripts))

pub returns-in-ListAppend : goal.returns-in-ListAppend
returns-in-ListAppend g c = λ most remaining used scripts r k. rw c.in-ListAppend.is (c.list_append.ensures most remaining r k (point (g.H.Host.oracle c.args.host.now) (g.H.Host.trace c.args.host.now) used scripts))

pub returns-in-Increase : goal.returns-in-Increase
returns-in-Increase g c = λ most remaining used scripts r k. rw c.in-Increase.is (c.increase.ensures most remaining r k (point (g.H.Host.oracle c.args.host.now) (g.H.Host.trace c.args.host.now) used scripts))

pub returns-in-Exists : goal.returns-in-Exists
returns-in-Exists g c = λ most remaining used scripts r k. rw c.in-Exists.is (c.exists.ensures most used scripts (bounds c.args.limits.value_bytes remaining) r k)

pub returns-in-Global : goal.returns-in-Global
returns-in-Global g c = λ most remaining used scripts r k. rw c.in-Global.is
    (c.global.ensures most (bounds c.args.limits.value_bytes remaining) r k
    (point (g.H.Host.oracle c.args.host.now) (g.H.Host.trace c.args.host.now) used scripts))

pub returns-in-Unset : goal.returns-in-Unset
returns-in-Unset g c = λ most remaining used scripts r k. rw c.in-Unset.is
    (c.unset.ensures most (bounds c.args.limits.value_bytes remaining) r k
    (point (g.H.Host.oracle c.args.host.now) (g.H.Host.trace c.args.host.now) used scripts))

pub returns-in-Define : goal.returns-in-Define
returns-in-Define g c = λ most remaining used scripts r k. rw c.in-Define.is
    (c.define.ensures most (bounds c.args.limits.value_bytes remaining) r k
    (point (g.H.Host.oracle c.args.host.now) (g.H.Host.trace c.args.host.now) used scripts))

pub returns-in-Put : goal.returns-in-Put
returns-in-Put g c = λ most remaining used scripts r k. rw c.in-Put.is (c.put.ensures most used scripts (bounds c.args.limits.value_bytes remaining) r k)

pub returns-in-Return : goal.returns-in-Return
returns-in-Return g c = λ most remaining used scripts r k. rw c.in-Return.is (c.returned.ensures most r c.args.variables.now (point (g.H.Host.oracle c.args.host.now) (g.H.Host.trace c.args.host.now) used scripts))

pub returns-in-Error : goal.returns-in-Error
returns-in-Error g c = λ most remaining used scripts r k. rw c.in-Error.is (c.raised.ensures most r c.args.variables.now (point (g.H.Host.oracle c.args.host.now) (g.H.Host.trace c.args.host.now) used scripts))

pub returns-in-Break : goal.returns-in-Break
returns-in-Break g c = λ most remaining used scripts r k. rw c.in-Break.is stay

pub returns-in-Continue : goal.returns-in-Continue
returns-in-Continue g c = λ most remaining used scripts r k. rw c.in-Continue.is stay

pub returns-in-Exit : goal.returns-in-Exit
returns-in-Exit g c = λ most remaining used scripts r k. rw c.in-Exit.is stay

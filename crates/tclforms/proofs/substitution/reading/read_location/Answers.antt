use Rattle.std.proofs.Common.{rules}
use Rattle.tclforms.proofs.substitution.Leading.{reason_stops}
use Rattle.tclforms.proofs.substitution.reading.read_location.Goals as goal

pub read_env-requires-text-name : goal.read_env-requires-text-name
read_env-requires-text-name g c =
    search rules

pub returns-in-Scalar : goal.returns-in-Scalar
returns-in-Scalar g c =
    (λ most used scripts r k. rw c.in-Scalar.is (c.read_scalar.ensures most r k _))

pub returns-in-Global : goal.returns-in-Global
returns-in-Global g c =
    (λ most used scripts r k. rw (c.in-Element.is, c.in-Global.is) (c.read_env.ensures most used scripts r k))

pub returns-in-Procedure : goal.returns-in-Procedure
returns-in-Procedure g c =
    (λ most used scripts r k. rw (c.in-Element.is, c.in-Procedure.is) (rw c.from.ensures (reason_stops _ _ _ c.no_variable.ensures)))

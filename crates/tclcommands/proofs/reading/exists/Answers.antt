use Rattle.std.proofs.Common.{rules}
use Rattle.std.proofs.lemmas.Result.{err_from_is_err_and}
use Rattle.tclrules.proofs.Leading.{continue_with, want, read_on}
use Rattle.tclforms.proofs.substitution.Leading.{given_stops, given_on}
use Rattle.tclcommands.proofs.Insides.{seen}
use Rattle.tclcommands.proofs.reading.exists.Goals as goal

pub read_env-requires-text-name : goal.read_env-requires-text-name
read_env-requires-text-name g c = search rules

pub returns-in_err-location : goal.returns-in_err-location
returns-in_err-location g c =
    let p = err_from_is_err_and c.from_residual.result c.from_residual.ensures.1 in
    rw (p.1, p.2) (λ most used scripts b r k. given_stops _ _ _ _ c.in_err-location.ensures)

pub returns-in-Scalar : goal.returns-in-Scalar
returns-in-Scalar g c =
    let e = rw c.in-Scalar.is at c.in_ok-location.ensures in
    λ most used scripts b r k. rw (c.truth.ensures c.args.variables.now, ← c.is_set.ensures k) (given_on _ _ _ _ e)

pub returns-in_err-value-in-Global : goal.returns-in_err-value-in-Global
returns-in_err-value-in-Global g c =
    let p = err_from_is_err_and c.from_residual-in_err-value-in-Global.result c.from_residual-in_err-value-in-Global.ensures.1 in
    let e = rw (c.in-Element.is, c.in-Global.is) at c.in_ok-location.ensures in
    let h = c.in_err-value-in-Global.ensures in
    rw (p.1, p.2) (λ most used scripts b r k. continue_with (given_on _ _ _ _ e) (want h.answer.0 h.answer.1 h.same))

pub returns-in_ok-value-in-Global : goal.returns-in_ok-value-in-Global
returns-in_ok-value-in-Global g c =
    let e = rw (c.in-Element.is, c.in-Global.is) at c.in_ok-location.ensures in
    let h = c.in_ok-value-in-Global.ensures in
    let s = c.args.variables.now in
    λ most used scripts b r k. rw (
      c.truth-in-Global.ensures s,
      ← seen s k c.in_ok-value-in-Global.value c.is_some.result
          c.is_some.ensures,
      h.answer.1,
    ) (continue_with (given_on _ _ _ _ e) (read_on h.answer.0 h.same))

pub returns-in-Procedure : goal.returns-in-Procedure
returns-in-Procedure g c =
    let e = rw (c.in-Element.is, c.in-Procedure.is) at c.in_ok-location.ensures in
    λ most used scripts b r k. rw (c.truth-in-Procedure.ensures c.args.variables.now) (given_on _ _ _ _ e)
